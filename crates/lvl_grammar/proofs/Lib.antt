pub mod Orders
pub mod Leads
pub mod Fills
pub mod Agreeing
pub mod Spelled
pub mod Laws
pub mod Stuck
pub mod Reading

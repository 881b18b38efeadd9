pub mod Region
pub mod Grid
pub mod Joined
pub mod Agree

pub mod Opening
pub mod Ends
pub mod Jobs
pub mod inside
pub mod Hashing
pub mod Listing
pub mod Done
pub mod Lines

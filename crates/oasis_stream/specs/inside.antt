pub mod Reached
pub mod Refuses
pub mod Within

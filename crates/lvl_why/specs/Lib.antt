pub mod Whys
pub mod inside

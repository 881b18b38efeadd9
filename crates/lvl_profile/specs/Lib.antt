pub mod Ignored
pub mod Limits
pub mod Profiles

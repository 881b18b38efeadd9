pub mod Cutting
pub mod Numbers
pub mod Zips
pub mod Sources

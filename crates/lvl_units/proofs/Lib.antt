pub mod Comparing
pub mod Readable

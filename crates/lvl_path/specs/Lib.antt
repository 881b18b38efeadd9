pub mod Ways
pub mod Bands
pub mod Runs
pub mod Repeats
pub mod Figure

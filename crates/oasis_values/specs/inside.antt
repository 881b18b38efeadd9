pub mod Leading
pub mod Stopped
pub mod Moved
pub mod Sizes

pub mod Codes
pub mod Ruling
pub mod Shapes
pub mod Others
pub mod Ignored
pub mod Sizes
pub mod Whole
pub mod Strings

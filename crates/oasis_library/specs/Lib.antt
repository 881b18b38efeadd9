pub mod Cells
pub mod Head
pub mod Names
pub mod Library
pub mod Ends
pub mod inside

pub mod Packed
pub mod Blocks
pub mod Unpacking
pub mod inside

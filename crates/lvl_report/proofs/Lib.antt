pub mod Running
pub mod Hinting
pub mod Decimals
pub mod Lining
pub mod Naming
pub mod Writing

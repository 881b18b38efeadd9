pub mod Layers
pub mod Names
pub mod Shifts
pub mod inside

pub mod Between
pub mod Cells
pub mod Casts
pub mod Steps
pub mod Agreement

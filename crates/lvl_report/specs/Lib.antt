pub mod Texts
pub mod Writing
pub mod Hints
pub mod Steps
pub mod Beside
pub mod inside
pub mod Runs
pub mod Tops

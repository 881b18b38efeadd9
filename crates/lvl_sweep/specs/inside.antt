pub mod Edges
pub mod Alive
pub mod Runs
pub mod Rows
pub mod Walks
pub mod Strips
pub mod Sweeps
pub mod InStep

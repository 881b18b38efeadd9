pub mod Marks
pub mod Rows
pub mod Sums
pub mod Budgets
pub mod Hashing
pub mod Begun
pub mod Sinks
pub mod Parts

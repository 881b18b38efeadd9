pub mod Wide
pub mod Areas
pub mod Rings
pub mod Moves
pub mod Searching
pub mod Stretches
pub mod Lattices
pub mod Known

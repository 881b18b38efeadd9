pub mod Elements
pub mod Layers
pub mod Lattices
pub mod Reaches
pub mod Ordered

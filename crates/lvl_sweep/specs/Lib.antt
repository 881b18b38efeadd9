pub mod Slab
pub mod Bands
pub mod Ahead
pub mod inside

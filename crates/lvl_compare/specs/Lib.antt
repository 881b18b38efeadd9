pub mod Flats
pub mod Tops
pub mod Parts
pub mod Pairs
pub mod inside

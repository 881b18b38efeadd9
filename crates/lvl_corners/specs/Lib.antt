pub mod Corners
pub mod Spans
pub mod Bytes
pub mod Masks
pub mod Digests
pub mod inside
pub mod Parts
pub mod Gathered

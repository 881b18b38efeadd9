pub mod Repeating
pub mod Known
pub mod Extents
pub mod Taking
pub mod Rectangles
pub mod Polygons
pub mod Paths
pub mod Placements

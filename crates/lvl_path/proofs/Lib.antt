pub mod BandOf
pub mod Corners
pub mod Covering
pub mod Outcomes
pub mod Figures
pub mod Lowest
pub mod Repeating

pub mod Rectangles
pub mod Joining
pub mod Turns
pub mod Redrawing
pub mod Teeth
pub mod Capping

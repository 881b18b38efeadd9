pub mod Wide
pub mod Boxes
pub mod Witnesses
pub mod inside

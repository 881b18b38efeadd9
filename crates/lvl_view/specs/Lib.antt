pub mod Texts
pub mod Views
pub mod Moved
pub mod inside

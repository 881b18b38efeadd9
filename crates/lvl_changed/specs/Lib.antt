pub mod Changed
pub mod inside

pub mod Steps
pub mod inside

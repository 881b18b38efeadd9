pub mod Modal
pub mod Names
pub mod Figures
pub mod Keeping
pub mod Rules
pub mod inside

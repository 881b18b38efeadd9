pub mod Types
pub mod Order
pub mod Rec
pub mod Values
pub mod Meaning
pub mod Rules
pub mod inside

pub mod Grammar
pub mod Front
pub mod Refused
pub mod Order
pub mod inside

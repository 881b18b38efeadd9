pub mod List
pub mod Text
pub mod inside

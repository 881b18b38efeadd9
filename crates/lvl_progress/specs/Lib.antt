pub mod Amounts
pub mod Wrapped

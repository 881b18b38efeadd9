pub mod Strips
pub mod Groups
pub mod Lists
pub mod Paces
pub mod Listed

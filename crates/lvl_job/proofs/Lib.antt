pub mod Saying
pub mod Doing
pub mod Telling
pub mod Passing
pub mod Listed
pub mod Looking

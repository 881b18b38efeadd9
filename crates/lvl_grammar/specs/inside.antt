pub mod ReadTo
pub mod After

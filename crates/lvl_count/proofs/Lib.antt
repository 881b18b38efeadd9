pub mod Listing
pub mod Adding
pub mod Growing
pub mod Totals
pub mod Referring
pub mod Drawing
pub mod Marked

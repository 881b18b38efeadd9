pub mod Spanning
pub mod Rows
pub mod Redraw

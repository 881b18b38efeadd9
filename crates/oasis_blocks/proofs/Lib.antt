pub mod Codes
mod Letter
mod Pieces

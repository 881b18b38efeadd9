mod CellsComputed
mod GdsElements
mod GridComputed
mod OasisModal
pub mod OasisSpelled
mod OasisSquare
mod OasisValues

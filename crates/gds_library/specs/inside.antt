pub mod Stage
pub mod Shown
pub mod Faults
pub mod Holds
pub mod Refuses

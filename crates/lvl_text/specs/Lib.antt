pub mod Faults
pub mod Gds
pub mod Oasis

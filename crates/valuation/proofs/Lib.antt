pub mod Bests
pub mod Faults
pub mod Halvings
pub mod Quantities

pub mod Attempts
pub mod Conservation
pub mod Moves
pub mod Runs
pub mod Totals

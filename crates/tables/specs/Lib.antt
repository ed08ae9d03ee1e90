pub mod Held
pub mod Rows
pub mod Stays
pub mod Values
pub mod Walks

pub mod Listed
pub mod Parties
pub mod Quantities

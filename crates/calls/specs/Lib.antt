pub mod Clauses
pub mod Amending
pub mod Paying

pub mod Laying
pub mod Grids
pub mod Postings
pub mod Journals
pub mod Rows
pub mod Holding
pub mod InRange

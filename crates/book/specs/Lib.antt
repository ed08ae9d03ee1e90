pub mod Refusals
pub mod Meaning
pub mod Moving
pub mod Totals
pub mod Lists
pub mod Law

pub mod DayEnd
pub mod Ranges
pub mod Refusals
pub mod Sameness
pub mod Sides

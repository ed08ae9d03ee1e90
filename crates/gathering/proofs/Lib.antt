pub mod Limits
pub mod Steps
pub mod Amounts
pub mod Courses
pub mod Picks

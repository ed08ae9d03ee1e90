pub mod Answers
pub mod Preparing
pub mod Obeying

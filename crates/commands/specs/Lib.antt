pub mod Acting
pub mod Answers
pub mod Hands
pub mod Obeying
pub mod Poking
pub mod Preparing
pub mod Pricing

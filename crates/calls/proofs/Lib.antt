pub mod Running
pub mod DayEnds
pub mod Places
pub mod Amends
pub mod Standing
pub mod Payments

pub mod Baskets
pub mod Taking
pub mod Gathered
pub mod Law

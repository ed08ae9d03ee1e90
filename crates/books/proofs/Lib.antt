pub mod Cells
pub mod Held
pub mod Latest
pub mod Places
pub mod Posted

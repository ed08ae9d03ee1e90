pub mod Accruing
pub mod Scales
pub mod Telescope
pub mod Walks
pub mod Scattered

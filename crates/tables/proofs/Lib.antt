pub mod Gaps
pub mod Holdings
pub mod Padded
pub mod Parted
pub mod Stays
pub mod Worths

pub mod Equal
pub mod InRanges
pub mod Same

pub mod Digits
pub mod Places
pub mod Spelling

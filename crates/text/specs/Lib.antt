pub mod Flags
pub mod Lines
pub mod Naming
pub mod Numbers
pub mod Readers
pub mod Saying
pub mod Scripts
pub mod Words

pub mod Asking
pub mod Standing

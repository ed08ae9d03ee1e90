pub mod Limits
pub mod Parts
pub mod PartsLaw
pub mod Shares
pub mod Tables
pub mod Apportioned
pub mod Accrual
pub mod AccrualLaw

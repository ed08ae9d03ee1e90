pub mod Beginnings
pub mod Calls
pub mod Commands
pub mod Naming
pub mod Pokes
pub mod Stating
pub mod Verbs

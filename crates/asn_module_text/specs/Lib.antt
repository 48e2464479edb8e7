pub mod Modules
pub mod Appending

pub mod Notations
pub mod Taken

pub mod Levels
pub mod Names
pub mod Printed
pub mod Reached
pub mod words

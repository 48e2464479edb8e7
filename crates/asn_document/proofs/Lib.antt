pub mod Elements
pub mod Entries
pub mod Puts
pub mod Whole
pub mod Writes

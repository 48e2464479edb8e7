pub mod Versions
pub mod Keeping

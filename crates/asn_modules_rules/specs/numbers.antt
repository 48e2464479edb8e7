pub mod Stated
pub mod Numbered
pub mod Faults

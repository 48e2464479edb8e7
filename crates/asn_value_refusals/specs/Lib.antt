pub mod Visible
pub mod Excerpts
pub mod Lines

pub mod Expansion
pub mod Linked
pub mod expander

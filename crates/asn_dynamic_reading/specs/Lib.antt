pub mod Fields
pub mod fitting

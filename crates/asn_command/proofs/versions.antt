pub mod Named
pub mod Grown

pub mod Names
pub mod Views
pub mod Order
pub mod Whole

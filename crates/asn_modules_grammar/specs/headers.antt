pub mod Fronts
pub mod Marks
pub mod Groups
pub mod Headers
pub mod Views

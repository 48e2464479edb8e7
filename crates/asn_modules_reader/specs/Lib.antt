pub mod Views
pub mod Modules
pub mod Arguments
pub mod Macros
pub mod parts
pub mod text

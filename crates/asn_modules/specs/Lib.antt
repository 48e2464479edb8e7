pub mod Empty
pub mod Names
pub mod Missing
pub mod Modules
pub mod Reading

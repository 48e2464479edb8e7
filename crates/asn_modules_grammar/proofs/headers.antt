pub mod Groups
pub mod Names
pub mod Imports
pub mod HeadersRead

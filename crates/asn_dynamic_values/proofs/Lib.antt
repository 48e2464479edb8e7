pub mod Views
pub mod Rows
pub mod Bits
pub mod Lasts
pub mod Tables

pub mod Status
pub mod Delivered
pub mod Reading
pub mod Namings

pub mod Listing
pub mod Counting
pub mod Keeping
pub mod Finding

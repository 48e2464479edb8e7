pub mod Lasts
pub mod Listing
pub mod Indexing

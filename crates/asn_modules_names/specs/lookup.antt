pub mod Homes
pub mod Entries
pub mod Views
pub mod Lookup
pub mod Indexes

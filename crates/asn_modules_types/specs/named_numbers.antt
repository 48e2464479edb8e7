pub mod Named
pub mod Entries
pub mod Views
pub mod Numbers

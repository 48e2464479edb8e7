pub mod Leaving
pub mod Sizing
pub mod Unmarked
pub mod Past
pub mod Behinds
pub mod Listing
pub mod Following
pub mod Telling
mod Examples

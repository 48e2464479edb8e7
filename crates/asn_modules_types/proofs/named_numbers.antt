pub mod Firsts
pub mod Listing

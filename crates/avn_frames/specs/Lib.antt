pub mod Listing
pub mod Closing
pub mod Places
pub mod Arranged

pub mod OneLine
pub mod Conversions
pub mod Whole
pub mod Readings
pub mod Listings
pub mod Streams
pub mod show
pub mod versions

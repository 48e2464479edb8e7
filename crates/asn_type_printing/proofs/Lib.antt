pub mod Written
pub mod Gathered
pub mod Viewed

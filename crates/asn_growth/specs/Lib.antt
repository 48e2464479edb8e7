pub mod Grows
pub mod Adapted
pub mod ComesUpon
pub mod Parts
pub mod Paths
pub mod Reasons
pub mod Differences

pub mod Placed
pub mod Shaped

pub mod Counts
pub mod Joined
pub mod Layers
pub mod Putting
pub mod Placing
pub mod Inserting
pub mod Reading
pub mod Whole

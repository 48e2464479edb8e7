pub mod Frames
pub mod Pending
pub mod Slots
pub mod Trees

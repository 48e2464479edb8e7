pub mod Floats
pub mod Reasons
pub mod Refusals
pub mod Blocks

pub mod Large
pub mod Leaves
pub mod Loops
pub mod OpenTypes
pub mod Resolving

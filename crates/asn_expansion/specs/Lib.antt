pub mod Places
pub mod OpenNames
pub mod Expansion
pub mod Large
pub mod Resolving

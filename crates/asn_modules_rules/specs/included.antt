pub mod Behind
pub mod Sizes
pub mod Extents
pub mod Types
pub mod TooLarge
pub mod Scopes

pub mod Fronts
pub mod Spaces
pub mod Comments
pub mod Words
pub mod Shorter
pub mod Reading
pub mod Places

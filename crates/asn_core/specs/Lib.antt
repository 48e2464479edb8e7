pub mod BitStrings
pub mod Bounds
pub mod Constraints
pub mod Numbers
pub mod ObjectIdentifiers
pub mod Tags
pub mod Texts
pub mod Seen

pub mod Equality
pub mod SameTrees
pub mod Meaning

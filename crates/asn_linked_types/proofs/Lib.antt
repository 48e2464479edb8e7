pub mod Linking
pub mod Expanding
pub mod Seen
pub mod Within

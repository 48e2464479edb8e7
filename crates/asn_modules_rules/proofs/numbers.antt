pub mod Digits
pub mod Repeating
pub mod Freed
pub mod Numbering
pub mod Marked

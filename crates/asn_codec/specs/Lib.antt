pub mod Binary
pub mod Conversion
pub mod Refused
pub mod Texts

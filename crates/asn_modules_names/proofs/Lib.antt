pub mod Founds
pub mod Repeating
pub mod Naming
pub mod Origins

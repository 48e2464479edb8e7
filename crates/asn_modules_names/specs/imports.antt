pub mod Imported
pub mod Tables

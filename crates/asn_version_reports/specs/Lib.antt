pub mod Paths
pub mod Reports
pub mod Valueless
pub mod Passing

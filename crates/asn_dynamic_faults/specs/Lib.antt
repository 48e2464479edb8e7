pub mod DynFailure
pub mod Texts
pub mod Steps

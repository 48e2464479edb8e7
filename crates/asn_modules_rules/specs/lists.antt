pub mod Written
pub mod Listed
pub mod Extensions

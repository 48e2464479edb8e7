pub mod Slices
pub mod NoTokens
pub mod LeftOuts
pub mod Expectations
pub mod Causes
pub mod Errors

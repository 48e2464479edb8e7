pub mod headers
pub mod notation

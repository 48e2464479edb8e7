pub mod Converting
pub mod encoding

pub mod Examples
pub mod Made

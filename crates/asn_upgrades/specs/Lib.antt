pub mod Apart
pub mod agreement

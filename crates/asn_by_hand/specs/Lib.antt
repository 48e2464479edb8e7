pub mod Groups
pub mod GrowingSet
pub mod MarkFields
pub mod Wide
pub mod WithNullOpt

pub mod Alternatives
pub mod Texts
pub mod Fields
pub mod Opening
pub mod Shapes

pub mod Expanding
pub mod Opening
pub mod Items
pub mod Fields
pub mod Alternatives

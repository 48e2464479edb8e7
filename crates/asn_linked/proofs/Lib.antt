pub mod Linked
pub mod Placing
mod Chained

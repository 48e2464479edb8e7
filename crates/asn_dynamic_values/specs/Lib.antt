pub mod DynView
pub mod Order

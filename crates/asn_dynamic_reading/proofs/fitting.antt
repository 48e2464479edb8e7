mod LeafKinds
mod Leaves
pub mod Elements
pub mod Fitting

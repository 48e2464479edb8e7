pub mod Holding
pub mod LeafAnswer
pub mod Numbers
pub mod Parts
pub mod Pending
pub mod Text

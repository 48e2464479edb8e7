pub mod View
pub mod Gathering
pub mod Answer
pub mod Radix
pub mod ReadNodes

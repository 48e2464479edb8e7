pub mod Nest
pub mod TreeShape
pub mod Tree
pub mod OldTree
pub mod NewTree
pub mod Wrap

pub mod Behind
pub mod Passed
pub mod Nodes
pub mod Listed
pub mod Reported
pub mod Lacking

pub mod Chain
pub mod Names
pub mod Parts
pub mod Closed
pub mod Bodies
pub mod Listed

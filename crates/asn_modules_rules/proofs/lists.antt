pub mod Walking
pub mod Collecting

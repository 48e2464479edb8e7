pub mod Calls
pub mod Faults
pub mod Input
pub mod Memory
pub mod Transfer

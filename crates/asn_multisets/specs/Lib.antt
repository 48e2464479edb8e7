pub mod Multisets
pub mod Multiplicities
pub mod Entries

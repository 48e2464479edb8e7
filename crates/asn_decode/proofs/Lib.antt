pub mod AtHand
pub mod Multisets
pub mod Ranges

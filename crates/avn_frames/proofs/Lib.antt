pub mod Listed
pub mod Walking
pub mod NamedSlots
pub mod Rearranged
pub mod Framing

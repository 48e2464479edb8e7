pub mod Outs
pub mod Referring
pub mod Unknowns

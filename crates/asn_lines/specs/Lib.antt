pub mod Answers
pub mod Gathering
pub mod Lines
pub mod Run
pub mod Splits
pub mod Writing

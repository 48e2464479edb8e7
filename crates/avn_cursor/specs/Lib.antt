pub mod Runs
pub mod Ahead
pub mod HexDigits

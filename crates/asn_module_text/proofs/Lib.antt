pub mod References
pub mod Repeated
pub mod Printing
pub mod PrintedAscii
pub mod Parsed
pub mod Properness

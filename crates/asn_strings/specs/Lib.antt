pub mod Alphabets
pub mod PastAscii
pub mod Units
pub mod Refusals

pub mod Braces
pub mod Tokens
pub mod Places

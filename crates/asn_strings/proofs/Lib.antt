pub mod Places
pub mod Utf8Octets
pub mod UnitTexts

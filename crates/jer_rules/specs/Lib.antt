pub mod Holding
pub mod NoLeaves
pub mod Numbers
pub mod Payload
pub mod Pending
pub mod Text
pub mod BitTexts
pub mod Identifiers

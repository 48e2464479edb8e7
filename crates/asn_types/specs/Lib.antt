pub mod TextTypes

pub mod ValueNames
pub mod References
pub mod Extensions

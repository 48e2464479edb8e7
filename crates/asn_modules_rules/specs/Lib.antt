pub mod lists
pub mod numbers
pub mod values
pub mod included
pub mod sizes
pub mod checks

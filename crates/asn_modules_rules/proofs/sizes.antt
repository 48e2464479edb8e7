pub mod Past
mod Examples

mod Absent
mod Naming
mod Opening
mod Reading
pub mod Named

pub mod ScanSteps
mod ScanRuns
mod SmallestTag
pub mod Padding
pub mod Cutting
pub mod Appending
pub mod HeldBits
pub mod Intersections

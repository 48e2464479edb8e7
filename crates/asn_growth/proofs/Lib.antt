pub mod Unfolding
pub mod Adapting
pub mod Versions
pub mod FirstFailures
pub mod Forward
pub mod Unknowns
pub mod Relaying
pub mod Backward
mod Examples
pub mod Tests
pub mod Matching
pub mod Growing
pub mod Walking
pub mod Steps
pub mod Viewed
pub mod Ordered
pub mod Prefixes

pub mod Exact
pub mod Trees
mod Grouping

pub mod Viewing
pub mod Notations
pub mod ArgumentsRead
pub mod BasesRead
pub mod MembersRead
pub mod BracesRead
pub mod HeadersShorter
pub mod MacrosRead
mod ModulesRead

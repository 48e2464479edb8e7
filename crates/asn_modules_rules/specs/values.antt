pub mod Leads
pub mod ValueLinks

mod Parting
mod Outcomes
mod Gathering
mod Stating
pub mod OneCut

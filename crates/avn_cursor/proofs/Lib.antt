pub mod Leads
pub mod Looking
pub mod DigitValues
pub mod BitPairs
pub mod Steps
pub mod Paying

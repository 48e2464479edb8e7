pub mod ExpectedOutput
pub mod Lines
pub mod Made
pub mod Reports
pub mod RequestView
pub mod Requests
pub mod Run
pub mod Status

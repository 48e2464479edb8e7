pub mod Severity
pub mod Origin
pub mod Setting
pub mod Alarm

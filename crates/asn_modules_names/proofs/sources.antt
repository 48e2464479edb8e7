mod Reading
pub mod Same

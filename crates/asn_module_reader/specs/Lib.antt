pub mod TokenView
pub mod StartView
pub mod EntryLists
pub mod Productions

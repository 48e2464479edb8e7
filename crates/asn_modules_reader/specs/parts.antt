pub mod Marks
pub mod Signs
pub mod Reading
pub mod EntryLists
pub mod Sizes
pub mod Starts
pub mod Values

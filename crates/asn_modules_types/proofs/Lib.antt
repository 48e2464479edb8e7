mod Examples
mod Ascii
mod Strings
pub mod Joining
mod Listing
mod Tagged
mod Naming
mod Leading
mod Defaulting
mod Sizing
mod Following
mod Copying
mod Seen
pub mod Bound
mod Numbering
mod Separated
mod Linking

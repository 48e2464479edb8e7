pub mod Joined
pub mod Failure
pub mod Texts
pub mod EncodeCause

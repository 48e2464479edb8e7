pub mod Words
pub mod Inverted
pub mod OneNotation
pub mod Signs
pub mod ReadAgain
pub mod Viewing

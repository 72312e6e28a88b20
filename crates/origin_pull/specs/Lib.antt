pub mod Keeping
pub mod Turns
pub mod Causes
pub mod EdgeState
pub mod Words

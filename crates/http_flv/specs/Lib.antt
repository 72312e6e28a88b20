pub mod Out
pub mod Deciding
pub mod Sending
pub mod Keeping
pub mod Turns
pub mod Causes
pub mod PlayerState

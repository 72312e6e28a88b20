pub mod Reading
pub mod Calls
pub mod Feeds
pub mod Steps
pub mod Closing

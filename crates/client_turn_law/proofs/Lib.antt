pub mod Alike
pub mod Feeds
pub mod Steps

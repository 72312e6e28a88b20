pub mod Starts
pub mod Steps
pub mod Texts
pub mod Cutting
pub mod Reading
pub mod Targets
pub mod Lists
pub mod Worked

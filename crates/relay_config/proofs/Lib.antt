pub mod Lists
pub mod Keys
pub mod Texts
pub mod Ranges
pub mod Lawful

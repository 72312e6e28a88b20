pub mod Ways
pub mod Live
pub mod Listing
pub mod Known
pub mod Steps
pub mod Examples
pub mod Laws
pub mod Full

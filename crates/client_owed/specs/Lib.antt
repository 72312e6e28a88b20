pub mod News
pub mod Client
pub mod Owed
pub mod Pulled
pub mod Growth
pub mod Standing

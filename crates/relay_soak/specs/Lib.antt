pub mod Clients
pub mod Units
pub mod Runs

pub mod Marking
pub mod Dropping
pub mod Configs

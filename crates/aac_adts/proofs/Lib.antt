pub mod Configs
pub mod Heads

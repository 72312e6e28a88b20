pub mod Heads
pub mod Targets
pub mod Texts

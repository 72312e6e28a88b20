pub mod Ranges
pub mod Places
pub mod Acks
pub mod Kept
pub mod Windows
pub mod Controls

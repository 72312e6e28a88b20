pub mod Frames
pub mod Parts
pub mod Text
pub mod Known
pub mod Ahead
pub mod Held
pub mod Sound
pub mod Examples

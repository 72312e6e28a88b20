pub mod Writing
pub mod Shelving
pub mod Filming
pub mod Reading
pub mod Ending

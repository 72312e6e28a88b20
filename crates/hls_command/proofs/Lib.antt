pub mod Writing
pub mod Reading
pub mod Ending
pub mod Segments

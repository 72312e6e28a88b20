pub mod Config
pub mod Frame
pub mod Reading

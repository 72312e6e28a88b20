pub mod Reading
pub mod Nothing

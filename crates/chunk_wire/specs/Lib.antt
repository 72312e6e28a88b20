pub mod Layout
pub mod Written
pub mod State
pub mod Chunk
pub mod ReadBack
pub mod Examples

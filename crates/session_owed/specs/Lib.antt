pub mod Dialogue
pub mod Acks
pub mod Talk
pub mod Owed
pub mod Talks
pub mod Standing
pub mod Chunks
pub mod Published

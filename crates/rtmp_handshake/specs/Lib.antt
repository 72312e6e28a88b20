pub mod Answer
pub mod Handshake
pub mod Feeds
pub mod Echo
pub mod Sound

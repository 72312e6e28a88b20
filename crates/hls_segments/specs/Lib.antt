pub mod Cuts
pub mod Playlist
pub mod Known
pub mod Opens
pub mod Times
pub mod Laws
pub mod ReadBack
pub mod Examples

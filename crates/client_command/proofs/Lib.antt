pub mod Passing
pub mod Turns
pub mod Writing
pub mod Telling
pub mod Pulled
pub mod Filming
pub mod Pushed
pub mod Begun

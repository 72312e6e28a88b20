pub mod Filed
pub mod Benches
pub mod Sessions
pub mod Rounds
pub mod Coming
pub mod Running
pub mod Turned
pub mod Books

pub mod Benches
pub mod Players
pub mod Rounds
pub mod Coming
pub mod Running
pub mod Books

pub mod Words
pub mod Files
pub mod Films
pub mod Outcome
pub mod Shelves
pub mod Parts

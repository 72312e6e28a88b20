pub mod Words
pub mod Films
pub mod Written
pub mod Outcome
pub mod Parts
pub mod Laws

pub mod Outcome
pub mod Words
pub mod LeftOut
pub mod Remux
pub mod Check
pub mod Parts
pub mod Fits

pub mod Words
pub mod State
pub mod Meaning
pub mod Dialog
pub mod Past
pub mod Writable
pub mod Sizes

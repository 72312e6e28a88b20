pub mod Keeping
pub mod Texts
pub mod Worked
pub mod Sizes
pub mod Bounds

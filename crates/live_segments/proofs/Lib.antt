pub mod Worked
pub mod Lists
pub mod Cutting
pub mod Moves
pub mod Runs
pub mod Grown

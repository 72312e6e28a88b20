pub mod Alike
pub mod Sessions
pub mod Recs
pub mod Casts
pub mod Lines
pub mod Printing
pub mod Runs

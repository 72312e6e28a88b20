pub mod Views
pub mod Exits
pub mod Numbers
pub mod Keys
pub mod Shorter
pub mod Grows
pub mod Values
pub mod Skips
pub mod Again
pub mod Split
pub mod Within
pub mod Placed
pub mod Patterns
pub mod Written
pub mod Encoded
pub mod Stays
pub mod Examples
mod Bare

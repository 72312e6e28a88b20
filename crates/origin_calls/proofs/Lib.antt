pub mod Whole
pub mod Members
pub mod Ordered
pub mod Given
pub mod Alone
pub mod Again
pub mod Relaying

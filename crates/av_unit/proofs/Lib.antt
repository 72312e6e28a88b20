pub mod Spared
pub mod Alone

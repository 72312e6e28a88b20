pub mod Lists
pub mod Randoms
pub mod Kept
pub mod Whole
pub mod Outs
pub mod Places
pub mod Cuts

pub mod Walking
pub mod Taking
pub mod Tallies
pub mod Places
pub mod Parts
pub mod Clearing
pub mod Pools
pub mod Tables

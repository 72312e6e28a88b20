pub mod Series
pub mod Memory

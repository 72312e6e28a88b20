pub mod Triples
pub mod Units
pub mod Prefixes
pub mod Streams
pub mod Sets
pub mod Records
pub mod Splits

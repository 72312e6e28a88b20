pub mod Spread
pub mod Recalling
pub mod Going
pub mod Chunked
pub mod Counted

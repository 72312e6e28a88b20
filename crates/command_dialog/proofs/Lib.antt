pub mod Free
pub mod Said
pub mod Rules
pub mod Streams
pub mod Sizes

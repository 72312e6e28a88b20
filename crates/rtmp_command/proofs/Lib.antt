pub mod Bodies
pub mod Hearing
pub mod Lengths

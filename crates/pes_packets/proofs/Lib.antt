pub mod Bits
pub mod Cuts
pub mod Sections
pub mod Register

pub mod Nal
pub mod Prefixed
pub mod AnnexB
pub mod Record
pub mod Split

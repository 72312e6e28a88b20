pub mod Names
pub mod Forms
pub mod Values
pub mod Sum
pub mod Refusals
pub mod Accepts
pub mod Report

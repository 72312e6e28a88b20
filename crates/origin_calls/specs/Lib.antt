pub mod Calls
pub mod Broadcasts
pub mod Examples
pub mod Origin
pub mod Relayed

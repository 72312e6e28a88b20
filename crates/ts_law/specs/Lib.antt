pub mod Packets
pub mod Leads
pub mod Pes
pub mod Bridge
pub mod Examples

pub mod Crc
pub mod Packet
pub mod Header
pub mod Tables

pub mod Headers
pub mod Packets
pub mod Runs
pub mod Tables
pub mod Pes
pub mod Carried
pub mod Items
pub mod Worked

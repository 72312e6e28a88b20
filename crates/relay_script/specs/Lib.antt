pub mod Script
pub mod Lines
pub mod Texts
pub mod OneLine
pub mod ReplayLines
pub mod Laws

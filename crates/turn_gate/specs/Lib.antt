pub mod Histories
pub mod Branches
pub mod TurnTable
pub mod InSlot
pub mod Known
pub mod Serving

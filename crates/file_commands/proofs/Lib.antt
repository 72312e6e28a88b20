mod Writing
mod Pieces
mod Files
mod Outcomes
mod UnitLines
mod Unread

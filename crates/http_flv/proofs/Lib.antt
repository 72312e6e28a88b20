pub mod Standing
pub mod Sounding
pub mod Rounds
pub mod Moving
pub mod Onwards
pub mod Causing
pub mod Lasting
pub mod Owing

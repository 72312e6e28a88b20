pub mod Placed
pub mod Answers
pub mod Tally
pub mod IsPast
pub mod Itemless
pub mod Alone
pub mod IsPoolPast
pub mod Table

pub mod Rule
pub mod WriterKnown
pub mod Written
pub mod InHand
pub mod Sound

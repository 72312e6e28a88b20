pub mod RingKnown
pub mod Marks
pub mod Kept
pub mod IsWindow

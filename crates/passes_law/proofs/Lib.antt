pub mod Counting
pub mod Passing
pub mod Turning
pub mod Guests
pub mod Working
pub mod HttpWorking

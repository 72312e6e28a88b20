pub mod Booking
pub mod Coming
pub mod Crossing
pub mod Slabs
pub mod Sounding
pub mod Turning

pub mod Words
pub mod Line
pub mod Pulls
pub mod Driving
pub mod Coming
pub mod Beside
pub mod Ends

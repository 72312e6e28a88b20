pub mod Units
pub mod Standing
pub mod Feeding
pub mod Once
pub mod Streams
pub mod Ends
pub mod ReadTables

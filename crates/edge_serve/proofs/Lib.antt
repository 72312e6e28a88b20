pub mod Coming
pub mod Walking
pub mod Turned
pub mod Leaving
pub mod Pulled
pub mod Ending
pub mod Asking

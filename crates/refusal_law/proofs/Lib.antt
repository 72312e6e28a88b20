pub mod Cuts
pub mod Never
pub mod Heeding
pub mod Asking
pub mod Calm
pub mod Creating
pub mod Granting
pub mod Endings

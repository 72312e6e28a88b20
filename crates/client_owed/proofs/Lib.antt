pub mod Growing
pub mod Standing

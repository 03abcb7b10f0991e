pub mod Fresh
pub mod Outcome

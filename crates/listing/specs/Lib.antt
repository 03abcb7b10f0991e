pub mod Asked
pub mod Outcome

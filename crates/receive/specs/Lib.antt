pub mod Take
pub mod Outcome
pub mod Asked

pub mod Outcomes
pub mod Refused

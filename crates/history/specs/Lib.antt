pub mod Runs
pub mod Demand
pub mod Lively

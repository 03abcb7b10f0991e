pub mod Ways
pub mod Sums
pub mod Asks

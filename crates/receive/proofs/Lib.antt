pub mod Bodies
pub mod Chains
pub mod Outcomes
pub mod Seats
pub mod Sounds
pub mod Refused

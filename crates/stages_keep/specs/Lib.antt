pub mod Steps
pub mod Way

pub mod Way
pub mod Shown
pub mod Stuck
pub mod History

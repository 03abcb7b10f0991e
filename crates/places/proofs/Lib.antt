pub mod Seen
pub mod Begun
pub mod Counts
pub mod Once
pub mod Turns

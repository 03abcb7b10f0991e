pub mod Turns
pub mod Closed
pub mod InRow

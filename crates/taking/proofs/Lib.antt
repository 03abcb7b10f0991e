pub mod Turns
pub mod Taken
pub mod First
pub mod InRow

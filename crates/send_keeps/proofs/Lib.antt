pub mod Letter
pub mod After
pub mod Refused
pub mod Done
pub mod Send

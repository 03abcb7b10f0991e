pub mod Given
pub mod Waiting
pub mod Examples

pub mod Clear
pub mod Steps
pub mod Bound
pub mod Rule
pub mod Posts

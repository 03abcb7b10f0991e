pub mod Letter
pub mod Post
pub mod Asked
pub mod Told

pub mod Going
pub mod Story

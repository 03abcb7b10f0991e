pub mod Find
pub mod Take

pub mod Words
pub mod Count
pub mod Rows

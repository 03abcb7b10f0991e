pub mod Lists
pub mod Numbers
pub mod Parts
pub mod Rows
pub mod Count
pub mod Over
pub mod Bits

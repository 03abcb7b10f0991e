pub mod Limits
pub mod Range
pub mod Made

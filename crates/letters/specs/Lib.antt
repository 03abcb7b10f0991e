pub mod Letter
pub mod Made
pub mod Asked

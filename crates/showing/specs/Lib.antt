pub mod List
pub mod Asked

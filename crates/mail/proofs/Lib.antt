pub mod Determined
pub mod Door

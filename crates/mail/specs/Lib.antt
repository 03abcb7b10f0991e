pub mod Door
pub mod Determined

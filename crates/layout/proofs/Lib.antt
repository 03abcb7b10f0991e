pub mod NodeRows
pub mod MemoryRows
pub mod Fits

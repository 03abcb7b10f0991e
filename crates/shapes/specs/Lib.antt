pub mod Seats
pub mod Shape

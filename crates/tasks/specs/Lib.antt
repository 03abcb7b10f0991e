pub mod Table
pub mod Seat

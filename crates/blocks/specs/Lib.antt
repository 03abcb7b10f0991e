pub mod Chain
pub mod Moves
pub mod Asked

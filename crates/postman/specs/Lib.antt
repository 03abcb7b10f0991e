pub mod Position
pub mod Round
pub mod Asked

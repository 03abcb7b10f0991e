pub mod Machine
pub mod Spelled
pub mod Core
pub mod Represents
pub mod Fresh
pub mod Same

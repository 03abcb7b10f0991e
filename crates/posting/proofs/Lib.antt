pub mod Rooms
pub mod Frames
pub mod Examples

pub mod Reading
pub mod Queues
pub mod Letters
pub mod Positions
pub mod Blocks
pub mod Sound

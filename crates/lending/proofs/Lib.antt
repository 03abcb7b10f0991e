pub mod Lent
pub mod Queues

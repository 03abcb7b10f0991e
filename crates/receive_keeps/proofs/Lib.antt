pub mod Anew
pub mod Ones
pub mod Taken
pub mod Kept
pub mod Receive

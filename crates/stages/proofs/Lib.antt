pub mod Stood
pub mod Copying
pub mod Putting
pub mod Giving

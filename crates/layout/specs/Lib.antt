pub mod Places
pub mod Numbers
pub mod Rows
pub mod Asked

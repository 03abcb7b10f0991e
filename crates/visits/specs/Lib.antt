pub mod Marks
pub mod Letters

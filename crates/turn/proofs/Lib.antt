pub mod Resumes
pub mod Outcomes

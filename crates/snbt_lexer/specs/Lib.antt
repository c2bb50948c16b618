pub mod Answers
pub mod Runs

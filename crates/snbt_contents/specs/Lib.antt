pub mod Answers
pub mod Puts

pub mod Steps
pub mod Spelling

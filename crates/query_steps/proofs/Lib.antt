pub mod Runs
pub mod Spelling
pub mod Turns

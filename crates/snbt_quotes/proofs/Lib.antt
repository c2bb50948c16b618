pub mod Parts
pub mod Backslashes
pub mod Walks

pub mod Buffers
pub mod Digits
pub mod Fields
pub mod Words
pub mod Chunks

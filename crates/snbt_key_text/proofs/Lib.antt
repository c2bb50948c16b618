pub mod Bounds
pub mod Keys

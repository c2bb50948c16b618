pub mod Levels
pub mod Reached
pub mod Sets
pub mod Plans

pub mod Groups
pub mod Fronts
pub mod Puts
pub mod Sequences

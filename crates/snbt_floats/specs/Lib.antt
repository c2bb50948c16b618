pub mod Scaled
pub mod Ties

pub mod Elements
pub mod Heads
pub mod Letters
pub mod Squares

pub mod Fronts
pub mod Reading
pub mod Sizes
pub mod Spanning
pub mod Steps

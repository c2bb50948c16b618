pub mod Sides
pub mod Depths
pub mod Levels
pub mod Walking
pub mod Roots
pub mod Finds

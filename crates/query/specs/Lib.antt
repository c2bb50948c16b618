pub mod Found
pub mod Sides
pub mod Walks

pub mod Rounded
pub mod Whole
pub mod Operations
pub mod Table
pub mod Narrow
pub mod Fields
pub mod Ranges

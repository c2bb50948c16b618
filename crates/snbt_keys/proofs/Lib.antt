pub mod Orders
pub mod Shifts
pub mod Names
pub mod Sides
pub mod Keys
pub mod Runs
pub mod Merges

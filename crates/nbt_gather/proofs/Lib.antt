pub mod Only
pub mod Parts
pub mod Containers
pub mod Runs
pub mod Asked

pub mod Among
pub mod Scans
pub mod Slurps
pub mod Finds
pub mod Fronts
pub mod Quiet
pub mod Answered

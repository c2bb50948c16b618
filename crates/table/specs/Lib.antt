pub mod Records
pub mod Check

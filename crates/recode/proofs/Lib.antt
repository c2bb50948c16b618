pub mod Outputs
pub mod Numbers
pub mod Characters
pub mod There

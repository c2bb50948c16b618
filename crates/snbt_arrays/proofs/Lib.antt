pub mod Gathers
pub mod Turning

pub mod Puts
pub mod Spans
pub mod Putting
pub mod Laid
pub mod Characters
pub mod Documents

pub mod Codings
pub mod Walks
pub mod Alike

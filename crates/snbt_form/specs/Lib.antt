pub mod Values
pub mod Nearest
pub mod Numbers
pub mod Lexing
pub mod Text

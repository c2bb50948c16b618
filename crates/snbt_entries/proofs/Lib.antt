-- Laws about the definitions and for the answers of the functions.
pub mod Turns
pub mod Colons
pub mod Sizes
pub mod Keyed
pub mod Words
pub mod Closing

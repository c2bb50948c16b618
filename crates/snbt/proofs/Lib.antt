-- Laws about the definitions and for the answers of the functions.
pub mod Reading
pub mod Sizes
pub mod Bytes
pub mod Held
pub mod Listing
pub mod Naming
pub mod Entering
pub mod Tops

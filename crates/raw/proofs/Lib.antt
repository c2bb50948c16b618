pub mod Order
pub mod Turns
pub mod Signs
pub mod Inverse

pub mod Pieces
pub mod Bytes
pub mod Rows
pub mod Judging

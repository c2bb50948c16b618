pub mod Names
pub mod Links
pub mod Lists
pub mod Forests
pub mod Holding
pub mod Orders
pub mod Cells

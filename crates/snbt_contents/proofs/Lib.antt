pub mod Fronts
pub mod Sofar
pub mod Fitted

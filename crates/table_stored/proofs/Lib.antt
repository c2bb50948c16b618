-- Laws on plain values, for the proofs of this crate.
pub mod Words

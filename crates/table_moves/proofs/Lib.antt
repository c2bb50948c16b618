-- Laws on plain values, for the proofs of this crate.
mod Parents
mod Putting
mod Planting
mod Taking
mod Judging

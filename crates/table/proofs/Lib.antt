-- Laws on plain values, for the proofs of this crate, and that the check's answer is determined.
pub mod Tests
pub mod Children
pub mod Verdicts

-- The laws behind the proofs of `vector_run`, and that a finding is determined. Assumes nothing.
pub mod Comparing
pub mod Found
pub mod Taking
pub mod Outcomes

-- The definitions of `vector_run`. Assumes nothing.
pub mod Cases
pub mod Findings
pub mod Counts
pub mod Lines

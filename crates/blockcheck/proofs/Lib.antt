-- The laws behind the proofs of `blockcheck`, and what is shown of the block check. Assumes nothing.
pub mod Cuts
pub mod Marking
pub mod Levels
pub mod Extents
pub mod Seeking
pub mod Concluding
pub mod Verdicts
pub mod Starts
pub mod Cases

-- The laws behind the proofs of `unhex_text`, and what is shown of its answers. Assumes nothing.
pub mod Telling
pub mod Lengths
pub mod Outcomes

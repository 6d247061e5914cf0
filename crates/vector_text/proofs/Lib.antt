-- The laws behind the proofs of `vector_text`. Assumes nothing.
pub mod Digits
pub mod Bytes
pub mod Parts

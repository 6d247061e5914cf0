-- The laws of `arith`. Assumes nothing.
pub mod Sums
pub mod Sentences
pub mod Cases
pub mod Regardless

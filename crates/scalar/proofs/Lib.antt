-- The laws of `scalar`. Assumes nothing.
pub mod Meaning
pub mod Numbers

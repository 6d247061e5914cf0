-- The definitions of `vector_text`. Assumes nothing.
pub mod Hex
pub mod Fields

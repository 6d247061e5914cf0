-- The definitions of `unhex_text`. Assumes nothing.
pub mod Unhexing

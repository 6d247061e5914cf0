-- The laws of `sense`. Assumes nothing.
pub mod Entries

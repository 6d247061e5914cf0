-- The definitions of `sense`. Assumes nothing.
pub mod Senses
pub mod Operations

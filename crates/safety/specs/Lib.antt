-- The definitions of `safety`. Assumes nothing.
pub mod Guidance

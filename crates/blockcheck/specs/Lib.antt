-- The definitions of `blockcheck`. Assumes nothing.
pub mod Blocks
pub mod Passes
pub mod Starts
pub mod Cases

-- The definitions of `plan`. Assumes nothing.
pub mod Addresses
pub mod Plans

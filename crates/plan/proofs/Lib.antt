-- The laws of `plan`. Assumes nothing.
pub mod Indexes
pub mod Cases

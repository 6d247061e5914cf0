-- The definitions of `shift`. Assumes nothing.
pub mod Values
pub mod Changes
pub mod Parts
pub mod Undefined

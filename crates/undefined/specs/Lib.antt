-- The definitions of `undefined`. Assumes nothing.
pub mod Undefined

-- The definitions of `flags`. Assumes nothing.
pub mod Word
pub mod Conditions
pub mod Results
pub mod Undefined

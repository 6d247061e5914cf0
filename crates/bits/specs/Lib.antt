-- The definitions of `bits`. Assumes nothing.
pub mod Tests
pub mod Scans
pub mod Doubles
pub mod Parts
pub mod Undefined

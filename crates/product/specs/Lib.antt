-- The definitions of `product`. Assumes nothing.
pub mod Magnitude
pub mod Multiply
pub mod Divide
pub mod Undefined

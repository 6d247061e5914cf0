-- The definitions of `arith`. Assumes nothing.
pub mod Sums
pub mod Integers
pub mod Binary
pub mod Single
pub mod Undefined
pub mod Worked

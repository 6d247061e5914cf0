-- The definitions of `width`. Assumes nothing.
pub mod Sizes
pub mod Numbers
pub mod LittleEndian

-- The laws of `width`. Assumes nothing.
pub mod Differences
pub mod Widths
pub mod LittleEndian
pub mod Truths

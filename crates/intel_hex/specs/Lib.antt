-- The definitions of `intel_hex`. Assumes nothing.
pub mod Lines
pub mod Records
pub mod Files
pub mod Writing
pub mod Cells
pub mod Reading

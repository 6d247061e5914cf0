-- The definitions of `cases`. Assumes nothing.
pub mod Lines
pub mod Table
pub mod Bits
pub mod Singles
pub mod Constants
pub mod Outside

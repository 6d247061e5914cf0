-- The laws of `effect`. Assumes nothing.
pub mod Assign
pub mod Choosing
pub mod Executed
pub mod Framing
pub mod Reckoned
pub mod Repeats
pub mod Rounds
pub mod Ways

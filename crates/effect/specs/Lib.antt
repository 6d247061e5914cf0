-- The definitions of `effect`. Assumes nothing.
pub mod Outcomes
pub mod Words
pub mod Bits
pub mod Arithmetic
pub mod Moves
pub mod Stacks
pub mod Branches
pub mod Strings
pub mod Singles
pub mod All
pub mod Performing
pub mod Framed
pub mod Ways
pub mod Stops
pub mod Does
pub mod Rounds
pub mod Reckoned

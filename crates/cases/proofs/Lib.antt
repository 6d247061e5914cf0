-- The proofs of the tables of `cases`. Assumes nothing.
pub mod Keeping
pub mod Holding
pub mod Bits
pub mod Singles
pub mod Constants

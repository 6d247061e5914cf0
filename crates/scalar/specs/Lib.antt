-- The definitions of `scalar`. Assumes nothing.
pub mod Singles

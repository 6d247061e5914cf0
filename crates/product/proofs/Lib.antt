-- The laws of `product`, and document 01's cases of division. Assumes nothing.
pub mod Magnitudes
pub mod Squares
pub mod Extension
pub mod Cases
pub mod Regardless

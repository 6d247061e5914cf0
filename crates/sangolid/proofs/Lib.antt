-- The laws of `sangolid`. Assumes nothing.
pub mod Bounds
pub mod States
pub mod Outcomes
pub mod Pausing

-- The definitions of `sangolid`. Assumes nothing.
pub mod Interface
pub mod Pausing

-- The laws of `flags`. Assumes nothing.
pub mod RoundTrips
pub mod ExclusiveOr
pub mod Regardless

-- The laws of `bits`. Assumes nothing.
pub mod Bits
pub mod GivenBits
pub mod Exchanges
pub mod Units
pub mod Ones
pub mod Moved
pub mod Sources
pub mod Cases
pub mod Regardless

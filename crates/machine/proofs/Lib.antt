-- The laws of `machine`. Assumes nothing.
pub mod Access
pub mod Allowed
pub mod Lists
pub mod Outside
pub mod Parts

-- The laws of `shift`. Assumes nothing.
pub mod Turns
pub mod Signs
pub mod Cases
pub mod Loops
pub mod Regardless

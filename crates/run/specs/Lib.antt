-- The definitions of `run`. Assumes nothing.
pub mod Steps
pub mod Beside
pub mod Runs
pub mod Standing
pub mod Pausing
pub mod Repetitions
pub mod Sites
pub mod Ends

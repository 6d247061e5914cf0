-- What is shown of runs of accepted code. Assumes nothing.
pub mod Landings
pub mod Safety

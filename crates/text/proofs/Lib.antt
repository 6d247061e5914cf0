-- The laws of `text`, for its own proofs and those of the crates above it. Assumes nothing.
pub mod Writing
pub mod Numbers
pub mod Tests

-- The laws of `run`. Assumes nothing.
pub mod Commits
pub mod Reading
pub mod Framing
pub mod Places
pub mod Sites
pub mod Going
pub mod Handing
pub mod Planned
pub mod Kept
pub mod Law
pub mod Unreadable
pub mod Repeated
pub mod Outside
pub mod Unique

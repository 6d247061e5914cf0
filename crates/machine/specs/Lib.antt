-- The definitions of `machine`. Assumes nothing.
pub mod Registers
pub mod Lending
pub mod Memory
pub mod Answers
pub mod Allowed

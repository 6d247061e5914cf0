-- What is shown of flags that 003 leaves undefined. Assumes nothing.
pub mod Unflagged
pub mod Effects
pub mod Steps

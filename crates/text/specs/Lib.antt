-- The definitions of `text`. Assumes nothing.
pub mod Ascii
pub mod Written
pub mod Digits
pub mod Fields

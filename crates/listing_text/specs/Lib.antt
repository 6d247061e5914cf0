-- The definitions of `listing_text`. Assumes nothing.
pub mod Listing

-- The laws behind the proofs of `listing_text`, and what is shown of the listing. Assumes nothing.
pub mod Completing
pub mod Cutting
pub mod Lengths
pub mod Outcomes

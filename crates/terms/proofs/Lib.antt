-- What the proofs of the terms share.
pub mod Searched
pub mod Offsets

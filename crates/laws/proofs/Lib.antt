-- The laws of the meaning. For the reader: Refusals, Exactly, Keeps, Apart, Aligned, Histories. The others serve their proofs.
pub mod Logic
pub mod Searches
pub mod Sizes
pub mod Lists
pub mod Counting
pub mod Allowing
pub mod Keeps
pub mod Refusals
pub mod Aligned
pub mod Apart
pub mod Exactly
pub mod Histories
pub mod Room
pub mod AtOnce

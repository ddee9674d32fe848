-- What the proofs of which share: each way out of its functions.
pub mod Replies
pub mod Slot
pub mod Block

-- What the proofs of the figures share.
pub mod Nodes
pub mod Levels
pub mod Answered

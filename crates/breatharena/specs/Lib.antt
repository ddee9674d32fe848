-- What the contracts of the player cite: what an answer is in writing. Assumes nothing.
pub mod Text

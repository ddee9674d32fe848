-- What the figures ensure.
pub mod Summed

-- What the contracts of `script` cite: how many bytes at a start, the words of a line, and plain decimal. Assumes nothing.
pub mod Counts
pub mod Words
pub mod Decimal

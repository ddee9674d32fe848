-- The laws of digits.
pub mod Digits

-- The digits of a number in base two.
pub mod Digits

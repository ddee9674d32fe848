-- What a check-up ensures.
pub mod Checked

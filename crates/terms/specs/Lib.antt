-- Document 01's words as code: what is answered.
pub mod Answers

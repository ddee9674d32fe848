-- What the C functions hand back, as an answer.
pub mod Said

-- What the proofs of `script` share, and worked examples.
pub mod Laws
mod Examples

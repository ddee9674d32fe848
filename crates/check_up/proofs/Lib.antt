-- What the loops' verdicts mean, and the tests of a leaf and of a node by cases.
pub mod Verdict
pub mod Cases

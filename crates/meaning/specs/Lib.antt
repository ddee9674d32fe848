-- Document 01's sections 2 to 4 on the set of live blocks alone. Read Search, Blocks and Answers first, in this order.
pub mod Search
pub mod Blocks
pub mod Answers
pub mod Candidates
pub mod Bytes
pub mod Runs

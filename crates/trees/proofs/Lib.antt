-- Trees and allowed sets of live blocks are the same thing.
pub mod Within
pub mod Runs
pub mod Changes
pub mod Slots
pub mod Pages
pub mod Places
pub mod Exists
pub mod Unique
pub mod Given
pub mod Sums
pub mod Accounts
pub mod Amounts
pub mod Steps
pub mod Returns

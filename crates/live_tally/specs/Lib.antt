pub mod Accounts
pub mod Kept

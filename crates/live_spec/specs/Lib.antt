pub mod Heard
pub mod Reports
pub mod Letters
pub mod Summed
pub mod Rows

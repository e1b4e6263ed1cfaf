pub mod Checks
pub mod Turns
pub mod Reports

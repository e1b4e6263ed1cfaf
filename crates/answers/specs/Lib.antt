pub mod Outcome
pub mod Both

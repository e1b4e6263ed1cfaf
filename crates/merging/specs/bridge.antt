pub mod Twice
pub mod Combined

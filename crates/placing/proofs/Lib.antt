pub mod Next
pub mod Copied
pub mod Listed
pub mod Written
pub mod Inner
pub mod Repeated
pub mod Bare

pub mod Judging
pub mod Valued
pub mod Whole

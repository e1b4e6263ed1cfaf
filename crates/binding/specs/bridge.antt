pub mod Judged
pub mod Bound

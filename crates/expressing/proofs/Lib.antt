pub mod Expressed
pub mod Counted
pub mod Whole

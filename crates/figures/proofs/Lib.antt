pub mod Renamed
pub mod Parts
pub mod Negated
pub mod ReadBack
pub mod Theorem
pub mod Worked

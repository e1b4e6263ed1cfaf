pub mod Placed
pub mod Fielded
pub mod Judged
pub mod Call

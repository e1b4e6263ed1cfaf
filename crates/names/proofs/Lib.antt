pub mod Hints
pub mod Laws
pub mod Columns
pub mod Clean
pub mod Narrow
pub mod Kept
pub mod Cleared

pub mod Walks
pub mod Filtered

pub mod Run
pub mod Walks

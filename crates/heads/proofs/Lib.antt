pub mod Cut
pub mod Queries
pub mod Heads
pub mod Parts

pub mod Narrow
pub mod bridge

pub mod Rename
pub mod bridge

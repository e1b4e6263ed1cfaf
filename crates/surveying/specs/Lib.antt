pub mod Scope
pub mod bridge

pub mod Projections
pub mod bridge

pub mod Names
pub mod Expected
pub mod Demand3
pub mod Empty
pub mod Unmatched
pub mod bridge

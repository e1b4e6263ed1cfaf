pub mod Triples
pub mod Order
pub mod Print
pub mod Bounds
pub mod Evaluate
pub mod bridge

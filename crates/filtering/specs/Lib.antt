pub mod IfFound
pub mod Values
pub mod Bindings
pub mod Functions
pub mod Filters
pub mod NotPlaced
pub mod Cases
pub mod bridge

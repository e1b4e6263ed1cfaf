pub mod Found
pub mod TreeLines
pub mod Placed
pub mod Search
pub mod Negated

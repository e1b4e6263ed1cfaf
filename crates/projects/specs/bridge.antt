pub mod Joining
pub mod Pair

pub mod Composed
pub mod Swapped
pub mod Pushed
pub mod Alike

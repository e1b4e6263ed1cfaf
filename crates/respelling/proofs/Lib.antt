pub mod Marked
pub mod Pieces
pub mod Turns
pub mod Called
pub mod Given

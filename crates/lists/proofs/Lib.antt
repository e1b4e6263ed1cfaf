pub mod Lines
pub mod Counts
pub mod Reading
pub mod Fields
pub mod Keys
pub mod Going
pub mod Turns
pub mod Said

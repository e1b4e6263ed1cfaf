pub mod Fields
pub mod Keys
pub mod Reading
pub mod Going
pub mod Turns

pub mod Mask
pub mod Words

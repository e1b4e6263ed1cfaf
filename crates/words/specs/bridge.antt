pub mod Code
pub mod Key
pub mod Words

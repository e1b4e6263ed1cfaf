pub mod Code
pub mod AsIs

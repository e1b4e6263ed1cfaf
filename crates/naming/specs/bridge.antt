pub mod Code
pub mod New

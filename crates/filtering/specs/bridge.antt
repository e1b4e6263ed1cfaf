pub mod Terms
pub mod SetLines
pub mod FilterLines
pub mod Copying
pub mod AsIs

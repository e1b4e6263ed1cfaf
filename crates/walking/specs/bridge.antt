pub mod Walk
pub mod Code
pub mod Flags
pub mod Rewritten

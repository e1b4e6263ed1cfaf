pub mod Variables
pub mod Charted
pub mod Head

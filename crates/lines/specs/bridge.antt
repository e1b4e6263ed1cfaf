pub mod Line
pub mod Steps
pub mod Says
pub mod Below
pub mod Noded
pub mod Spotted
pub mod Stored

pub mod Figures
pub mod bridge

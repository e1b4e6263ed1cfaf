pub mod Names
pub mod Checked

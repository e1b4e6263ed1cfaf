pub mod Steps
pub mod Read
pub mod Calls
pub mod Short
pub mod Worked
pub mod Numbered

pub mod Trees
pub mod Steps

pub mod Answers
pub mod Numbered
pub mod Given
pub mod Both

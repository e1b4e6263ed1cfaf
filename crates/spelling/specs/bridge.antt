pub mod Saying
pub mod Seeking
pub mod Judging
pub mod Walks

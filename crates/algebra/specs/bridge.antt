pub mod Table
pub mod Machine
pub mod Answers
pub mod Verdict
pub mod Just

pub mod Renamed
pub mod MergedTree
pub mod MergedEvaluated
pub mod Theorem

pub mod Marks
pub mod ByNumber
pub mod Descent
pub mod Whole

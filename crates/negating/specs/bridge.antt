pub mod Lines
pub mod Negated

pub mod Trees
pub mod Entries
pub mod Values
pub mod Root
pub mod Repeated
pub mod Widths
pub mod Sides

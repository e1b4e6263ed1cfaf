pub mod Numbers
pub mod Cells
pub mod Table
pub mod Tables
pub mod Text
pub mod Lines
pub mod Allowed

pub mod TreeAt
pub mod Known

pub mod Laws
pub mod Numbered

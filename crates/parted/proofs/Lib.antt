pub mod Laws
pub mod Bars
pub mod Parts

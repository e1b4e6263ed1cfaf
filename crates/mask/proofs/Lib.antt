pub mod Bits
pub mod Words
pub mod Laws
pub mod Width
pub mod Worked

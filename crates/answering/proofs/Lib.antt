pub mod Laws
pub mod Printed
pub mod Numbered

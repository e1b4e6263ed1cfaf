pub mod Starts
pub mod Tables
pub mod Terms
pub mod Namespaces
pub mod Conversion
pub mod Cases
pub mod bridge

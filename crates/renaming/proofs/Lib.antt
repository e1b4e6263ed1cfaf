pub mod Mapping
pub mod Tables
pub mod Targets
pub mod Long
pub mod Renamed
pub mod Given

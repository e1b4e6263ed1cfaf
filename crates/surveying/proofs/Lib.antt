pub mod Lists
pub mod Tables
pub mod Scoped
pub mod Standard
pub mod Given

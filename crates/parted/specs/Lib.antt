pub mod Parted
pub mod Examples
pub mod bridge

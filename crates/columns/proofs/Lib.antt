pub mod Places
pub mod New
pub mod Picked
pub mod Counted
pub mod Gone
pub mod Positions

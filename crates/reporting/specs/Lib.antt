pub mod Report
pub mod Steps
pub mod Cases
pub mod bridge

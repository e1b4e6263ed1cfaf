pub mod bridge

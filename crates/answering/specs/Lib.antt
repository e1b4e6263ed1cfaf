pub mod Answering
pub mod Printed
pub mod Examples
pub mod bridge

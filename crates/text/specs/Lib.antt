pub mod Text
pub mod Word
pub mod Field
pub mod Examples
pub mod bridge

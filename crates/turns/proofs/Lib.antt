pub mod Ends
pub mod Kept
pub mod Again
pub mod Inherit
pub mod Stepped
pub mod Theorem
pub mod Returned

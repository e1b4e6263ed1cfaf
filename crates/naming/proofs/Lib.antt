pub mod Labels
pub mod Decimals
pub mod Room
pub mod Lookup
pub mod Book
pub mod Numbered
pub mod Settled

pub mod RunLaw
pub mod DescentLaw
pub mod CheckLaw
pub mod WalksLaw
pub mod GroupsLaw
pub mod OneLaw
pub mod ReadLaw
pub mod Counts

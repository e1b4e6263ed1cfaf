pub mod Bag
pub mod Row
pub mod Condition
pub mod Scope
pub mod Answer
pub mod Countable

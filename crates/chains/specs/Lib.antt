pub mod Chain
pub mod Depth
pub mod Located
pub mod Reversed
pub mod Swapped
pub mod WellFormed

pub mod Ordered
pub mod LeastRows
pub mod PartWay
pub mod Along
pub mod Running
pub mod Stepping
pub mod Turning

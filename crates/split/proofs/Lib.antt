pub mod Joining
pub mod Keyed
pub mod Moving

pub mod Worlds
pub mod Ranges
pub mod Events
pub mod Histories
pub mod Owners
pub mod Law
pub mod Runs

pub mod Fuses
pub mod Openings
pub mod Servers
pub mod Starts

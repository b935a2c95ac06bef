pub mod Applied
pub mod Giving
pub mod Checking

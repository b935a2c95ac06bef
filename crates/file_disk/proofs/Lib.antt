pub mod Lengths
pub mod Owed

pub mod Dense
pub mod Entries
pub mod Lists
pub mod Names
pub mod Slots

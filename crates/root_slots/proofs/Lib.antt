pub mod Choice
pub mod Crashes
pub mod Readings
pub mod Spelled
pub mod Changing
pub mod Told
pub mod Windows

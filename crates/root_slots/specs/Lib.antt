pub mod Root
pub mod Slot
pub mod Slots
pub mod Crash

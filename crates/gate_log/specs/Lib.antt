pub mod Calls
pub mod Disks
pub mod Found
pub mod Frame
pub mod Log
pub mod LogState
pub mod Refusals
pub mod Steps

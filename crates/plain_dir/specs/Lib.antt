pub mod Served
pub mod Steps
pub mod Numbers
pub mod Checks

pub mod Merged
pub mod Cursors
pub mod Telling
pub mod Runs
pub mod Answers
pub mod Merging
pub mod Steps
pub mod Turns

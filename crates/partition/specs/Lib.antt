pub mod Rows
pub mod Replies
pub mod Planning
pub mod Serving
pub mod Meaning

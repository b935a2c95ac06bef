pub mod Words
pub mod Names
pub mod Grammar
pub mod Text
pub mod Reading
pub mod Answers

pub mod Noted
pub mod NotedLaws

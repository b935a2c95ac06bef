pub mod Caches
pub mod Contained
pub mod Places

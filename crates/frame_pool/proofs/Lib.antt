pub mod Counting
mod Places

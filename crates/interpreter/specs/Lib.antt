pub mod EventText
pub mod Payments
pub mod Steps
pub mod Story
pub mod Text

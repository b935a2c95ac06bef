pub mod Above
pub mod Endings
pub mod Greatest
pub mod Held

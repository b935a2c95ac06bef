pub mod Loading
pub mod Undone
pub mod Cases
pub mod Rowing
pub mod Mirrored
pub mod Laws
pub mod Sweeping

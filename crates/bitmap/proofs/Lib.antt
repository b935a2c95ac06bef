pub mod Bitmaps
pub mod Edits
pub mod WordTests

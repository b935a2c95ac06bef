pub mod Bitmaps
pub mod Takes

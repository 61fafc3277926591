pub mod Cursor
pub mod Writer
pub mod Simulates
pub mod Scratch
pub mod Bytes
pub mod PlacedInPool
pub mod PlacedInScratch

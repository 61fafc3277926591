pub mod Progress
pub mod Walked
pub mod Walk
pub mod Found
pub mod Chunk
pub mod Filling

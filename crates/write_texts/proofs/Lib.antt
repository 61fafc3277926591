-- Laws for callers: runs of steps, and regions of the scratch.
pub mod CellBytes
pub mod Stores
pub mod Runs
pub mod Ahead
pub mod Interning
pub mod Regions
pub mod ScratchPools
pub mod PlacedInScratch

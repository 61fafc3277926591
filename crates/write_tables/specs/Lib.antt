pub mod Offsets
pub mod Placed
pub mod RecordsPut
pub mod VariablesPlaced
pub mod BuffersPlaced
pub mod Chunk

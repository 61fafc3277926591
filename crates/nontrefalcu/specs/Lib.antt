pub mod Exports
pub mod PayloadWords
pub mod Left
pub mod Writing

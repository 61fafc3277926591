pub mod Utf8
pub mod Sequences
pub mod Strings
pub mod Same
pub mod Neighbours

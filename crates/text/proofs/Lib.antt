pub mod Bools
pub mod Runs
pub mod Sequences
pub mod Strings
pub mod Written
pub mod SameBytes
pub mod Examples
pub mod Neighbours

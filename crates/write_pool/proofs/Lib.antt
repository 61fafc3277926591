pub mod Hashes
pub mod Links
pub mod Emptied
pub mod Added

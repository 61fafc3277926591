pub mod Readable
pub mod Checks

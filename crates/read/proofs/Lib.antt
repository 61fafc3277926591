-- Laws of reading a whole chunk.
pub mod Rows
mod Header
mod Progress
mod Tables
mod Cleared
pub mod Held
pub mod Decoded

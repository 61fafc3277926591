pub mod Joined
pub mod Stores
pub mod Copied

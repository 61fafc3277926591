pub mod Padding
pub mod Joined
pub mod Listed

pub mod Names
pub mod Listing

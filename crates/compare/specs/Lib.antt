pub mod Fields
pub mod Compared

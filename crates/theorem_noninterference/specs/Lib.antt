pub mod Noninterference
pub mod Outputs

pub mod Sides
pub mod Noninterference
pub mod RoundTrip

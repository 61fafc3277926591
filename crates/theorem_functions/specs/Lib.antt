pub mod Calls
pub mod Noninterference
pub mod RoundTrip
pub mod Words
pub mod Sides

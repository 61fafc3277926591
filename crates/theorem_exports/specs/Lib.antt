pub mod Calls
pub mod Noninterference
pub mod RoundTrip

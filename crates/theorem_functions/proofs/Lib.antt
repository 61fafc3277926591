pub mod Wrote
pub mod Written
pub mod Called
pub mod Found
pub mod Noninterference
pub mod RoundTrip

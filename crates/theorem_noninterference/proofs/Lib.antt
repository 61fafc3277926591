-- Noninterference, and what it rests on.
pub mod Numbered
pub mod Plain
pub mod Within
pub mod Readable
pub mod OneLayout
pub mod SameButDefaults
pub mod Answers
pub mod Noninterference
pub mod Instance
pub mod Outputs

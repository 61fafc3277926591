pub mod Step
pub mod Read

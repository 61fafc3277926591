pub mod Answer
pub mod Parsed
pub mod Header
pub mod Filled

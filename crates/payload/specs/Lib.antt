pub mod Answer
pub mod ReadsBack
pub mod Lengths

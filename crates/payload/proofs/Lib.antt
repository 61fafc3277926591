mod Answers
mod Contents
mod Lengths
mod Found
mod Comparing
mod Wider
pub mod Equal
pub mod HandedBack

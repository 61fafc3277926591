pub mod Lengths
mod Numbers

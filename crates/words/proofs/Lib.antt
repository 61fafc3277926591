pub mod Words
pub mod Parts
pub mod Splice
pub mod Records

pub mod Digits
pub mod Fitting
pub mod NameLength
pub mod Lines
pub mod Appended

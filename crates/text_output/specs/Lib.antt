pub mod Written
pub mod Cursor
pub mod Digits
pub mod Ascii
pub mod Printable
pub mod Output

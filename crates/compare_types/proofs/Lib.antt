pub mod Numbers
pub mod Equal
pub mod Names

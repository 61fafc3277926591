pub mod Bindings
pub mod Variables
pub mod Buffers

mod Walks
mod Fields
mod Buffers

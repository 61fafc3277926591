mod Fields
mod Hex

pub mod Nodes
pub mod Records
pub mod Tables
pub mod Decode
pub mod Trees
pub mod TableReflection
pub mod Lent

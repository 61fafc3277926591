-- What the proofs of several functions use.
mod Members
mod Types
mod Path
pub mod Names
pub mod InChunk
pub mod Kept
pub mod Table
pub mod Grown
mod MembersWalk
mod TypeWalk

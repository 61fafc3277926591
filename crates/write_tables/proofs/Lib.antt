-- Laws that the proofs of this crate and of its callers cite.
pub mod Lists
mod Many
mod Steps
mod Advance
mod Writers
mod Rows
mod RowWords
mod Pools
mod NamesLoop
mod OneVariable
mod VariablesLoop
mod OneSection
mod SectionsLoop
mod AllBuffers
mod Beginning
mod AllChunk

-- Laws of writing a spelling.
pub mod WritePieces
pub mod WriteRefusals

-- Laws of reading a spelling; what is spelled reads back.
pub mod ParseBase
pub mod ParseParts
pub mod ParseNumbers
pub mod ParseTypes
pub mod ParseAscii
pub mod WriteDecimal
pub mod WriteSplit
pub mod WriteReadBack

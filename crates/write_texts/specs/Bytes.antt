-- Vocabulary of internal contracts: the bytes of words, as write_bytes puts them.
unfoldable pub use Rattle.write_bytes.specs.Bytes.{joined_bytes}

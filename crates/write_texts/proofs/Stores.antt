-- How far padding moves the cursor, from write_bytes.
pub use Rattle.write_bytes.proofs.Stores.{padding_short, padded_near}

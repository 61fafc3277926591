-- Vocabulary of internal contracts and of proofs: names and defaults that stand for others, as places stand for bytes.
use Rattle.std.specs.Prelude.{ℕ, get_or}
use Rattle.reflection.specs.Contents.{Bytes}
use Rattle.write_spec.specs.Step.{Cell, byte, name_byte, default_byte, TextFacts}

-- Names and defaults that stand for others (places for bytes, numbers for bytes): the layout may know of them what it may know of those.
unfoldable pub through : {N D M E : Type 0} → (N → M) → (D → E) → TextFacts M E → TextFacts N D
through f g O = record {
  name_length = λ n. O.name_length (f n);
  same_name = λ n m. O.same_name (f n) (f m);
  default_length = λ d. O.default_length (g d);
  same_default = λ d e. O.same_default (g d) (g e);
}

-- The byte of a cell, where names and defaults stand for bytes.
unfoldable pub fill_through : {N D : Type 0} → (N → Bytes) → (D → Bytes) → Cell N D → ℕ
fill_through f g (byte b) = b
fill_through f g (name_byte name j) = get_or (f name) j 0
fill_through f g (default_byte default j) = get_or (g default) j 0

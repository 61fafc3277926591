-- A text by its source: in the chunk, in the text of edits, or in neither. Each law is one case of the definitions.
use mathlib.Core.Path.{◌≡◌, sym, ap, ◌∙◌}
use mathlib.Core.Bool.{true, false}
use mathlib.Core.List.{List, []}
use Prim.Native.Nat.{ℕ}
use native.Mathlib.Decide.{ℕ_discrete}
use native.Mathlib.Omega.{arith}
use borrow.Author.Tests.{eq-eqb, ne_eqb}
use lib.ListN.{length, drop, length-drop}
use lib.Seq.{length-take-le}
use Rattle.words.specs.Parts.{inside, part}
use Rattle.words.proofs.Parts.{inside_fits, part_inside, part_outside}
use Rattle.reflection.specs.declared.Text.{Text}
use Rattle.reflection.specs.Texts.{in_place, text_bytes}

length_part : (s : List ℕ) (place n : ℕ) → inside (length s) place n ≡ true → length (part s place n) ≡ n
length_part s place n e =
    ap length (part_inside s place n e) ∙ length-take-le n (drop place s) (omega (arith, length-drop place s, inside_fits (length s) place n e))

module _ (chunk edits : List ℕ) (t : Text) where
  pub place_in_chunk : t.source ≡ 0 → in_place chunk edits t ≡ inside (length chunk) t.place t.length
  unfolding in_place
  place_in_chunk e = rw (in_place, eq-eqb t.source 0 e)

  pub place_in_edits : (t.source ≡ 0 → ⊥) → t.source ≡ 1 → in_place chunk edits t ≡ inside (length edits) t.place t.length
  unfolding in_place
  place_in_edits n e = rw (in_place, ne_eqb t.source 0 n, eq-eqb t.source 1 e)

  pub place_nowhere : (t.source ≡ 0 → ⊥) → (t.source ≡ 1 → ⊥) → in_place chunk edits t ≡ false
  unfolding in_place
  place_nowhere n m = rw (in_place, ne_eqb t.source 0 n, ne_eqb t.source 1 m)

  pub bytes_in_chunk : t.source ≡ 0 → text_bytes chunk edits t ≡ part chunk t.place t.length
  unfolding text_bytes
  bytes_in_chunk e = rw (text_bytes, eq-eqb t.source 0 e)

  pub bytes_in_edits : (t.source ≡ 0 → ⊥) → t.source ≡ 1 → text_bytes chunk edits t ≡ part edits t.place t.length
  unfolding text_bytes
  bytes_in_edits n e = rw (text_bytes, ne_eqb t.source 0 n, eq-eqb t.source 1 e)

  pub bytes_nowhere : (t.source ≡ 0 → ⊥) → (t.source ≡ 1 → ⊥) → text_bytes chunk edits t ≡ []
  unfolding text_bytes
  bytes_nowhere n m = rw (text_bytes, ne_eqb t.source 0 n, ne_eqb t.source 1 m)

  -- as many bytes as the text's length says where it is in place, and else none
  pub length_bytes : in_place chunk edits t ≡ true → length (text_bytes chunk edits t) ≡ t.length
  length_bytes e =
      elim (ℕ_discrete t.source 0) [
        | yes z ↦ ap length (bytes_in_chunk z) ∙ length_part chunk t.place t.length (sym (place_in_chunk z) ∙ e)
        | no n ↦ elim (ℕ_discrete t.source 1) [
          | yes o ↦ ap length (bytes_in_edits n o) ∙ length_part edits t.place t.length (sym (place_in_edits n o) ∙ e)
          | no m ↦ let f : in_place chunk edits t ≡ false = place_nowhere n m in cc
        ]
      ]

  pub no_bytes : in_place chunk edits t ≡ false → text_bytes chunk edits t ≡ []
  no_bytes e =
      elim (ℕ_discrete t.source 0) [
        | yes z ↦ bytes_in_chunk z ∙ part_outside chunk t.place t.length (sym (place_in_chunk z) ∙ e)
        | no n ↦ elim (ℕ_discrete t.source 1) [
          | yes o ↦ bytes_in_edits n o ∙ part_outside edits t.place t.length (sym (place_in_edits n o) ∙ e)
          | no m ↦ bytes_nowhere n m
        ]
      ]

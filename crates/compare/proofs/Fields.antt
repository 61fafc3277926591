-- Headers compared number by number, as the code's tests follow it: the first that differs decides, and where all agree the rest does.
use mathlib.Core.Path.{◌≡◌, refl, sym, ap, ◌∙◌}
use mathlib.Core.Bool.{Bool, true, false, ◌&&◌}
use Prim.Native.Nat.{ℕ}
use lib.Dec.{eqb}
use borrow.Author.Tests.{eq-eqb}
use Rattle.text.specs.Same.{same_bytes}
use Rattle.text.proofs.SameBytes.{other_byte}
use Rattle.reflection.specs.declared.ResourceDef.{ResourceDef as Header}
use Rattle.reflection.specs.Reflection.{major_of, is_sm5}
use Rattle.reflection.specs.Rd11.{rd11_from_header}
use Rattle.reflection.proofs.Rd11BySm5.{rd11_if, sm5_is, rd11_by_sm5}
use Rattle.write_spec.specs.Same.{rd11_numbers}
use Rattle.compare.specs.Fields.{header_numbers}

module _ (x y : Header) where
  pub other_version : (x.target_version ≡ y.target_version → ⊥) → same_bytes (header_numbers x) (header_numbers y) ≡ false
  unfolding header_numbers
  other_version = other_byte (header_numbers x) (header_numbers y) 0

  pub other_flags : (x.compile_flags ≡ y.compile_flags → ⊥) → same_bytes (header_numbers x) (header_numbers y) ≡ false
  unfolding header_numbers
  other_flags = other_byte (header_numbers x) (header_numbers y) 1

and-true : (b : Bool) → (b && true) ≡ b
and-true true = refl
and-true false = refl

-- Only major 5 has RD11 words.
module _ (x y : Header) (version : x.target_version ≡ y.target_version) (flags : x.compile_flags ≡ y.compile_flags) where
  by_words : same_bytes (header_numbers x) (header_numbers y) ≡ same_bytes (rd11_numbers (rd11_from_header x)) (rd11_numbers (rd11_from_header y))
  unfolding same_bytes header_numbers
  by_words = rw (eq-eqb x.target_version y.target_version version, eq-eqb x.compile_flags y.compile_flags flags)

  same_major : is_sm5 (rd11_from_header x) ≡ is_sm5 (rd11_from_header y)
  same_major = sm5_is x ∙ ap (λ (v : ℕ). eqb (major_of v) 5) version ∙ sym (sm5_is y)

  by_major : (sm5 : Bool) → is_sm5 (rd11_from_header x) ≡ sm5 → same_bytes (header_numbers x) (header_numbers y) ≡ same_bytes (rd11_numbers (rd11_if sm5 x))
      (rd11_numbers (rd11_if sm5 y))
  by_major sm5 e =
      let p = rd11_by_sm5 x sm5 (sym e) in
      let q = rd11_by_sm5 y sm5 (sym e ∙ same_major) in
      by_words ∙ (λ z. same_bytes (rd11_numbers (p z)) (rd11_numbers (q z)))

  pub equal_without_rd11 : is_sm5 (rd11_from_header x) ≡ false → same_bytes (header_numbers x) (header_numbers y) ≡ true
  unfolding same_bytes rd11_numbers
  equal_without_rd11 other = by_major false other

  pub by_rd11 : is_sm5 (rd11_from_header x) ≡ true
      → same_bytes (header_numbers x) (header_numbers y)
      ≡ (eqb x.rd11.identifier y.rd11.identifier && (eqb x.rd11.resource_binding_stride y.rd11.resource_binding_stride
      && eqb x.rd11.interface_slot_count y.rd11.interface_slot_count))
  unfolding same_bytes rd11_numbers
  by_rd11 five = by_major true five ∙ rw (and-true (eqb x.rd11.interface_slot_count y.rd11.interface_slot_count))

pub ruleset header_tests = (other_version, other_flags, equal_without_rd11, by_rd11)

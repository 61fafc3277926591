-- What two reflections have in common that share all but their defaults' bytes. Both are one reflection with numbered defaults, and the canonical form of
-- each is that one reflection's layout, filled in from its own defaults.
use mathlib.Core.Path.{◌≡◌, ap, sym, ◌∙◌, subst, subst₂}
use mathlib.Core.List.{List, map}
use Prim.Native.Nat.{ℕ}
use native.Mathlib.Nat.{zero-add}
use lib.ListN.{length, length-map, get_or}
use Rattle.text.specs.Same.{same_bytes}
use Rattle.reflection.specs.declared.Text.{Text}
use Rattle.reflection.specs.Reflection.{ResourceDef, map_def}
use Rattle.reflection.specs.Contents.{Bytes}
use Rattle.readable.specs.Readable.{readable_contents}
use Rattle.write_spec.specs.Step.{TextFacts, Placed}
use Rattle.write_spec.specs.Records.{BodyOffsets}
use Rattle.write_spec.specs.Layout.{layout}
use Rattle.write_spec.specs.Canonical.{bytes_facts, canonical}
use Rattle.write_spec.specs.Through.{through, fill_through}
use Rattle.write_spec.proofs.Natural.{layout_natural, canonical_through}
use Rattle.theorem_round_trip.specs.RoundTrip.{default_places, NumbersAreWords}
use Rattle.theorem_noninterference.specs.Noninterference.{default_number, SameButDefaults, Covered}
use Rattle.theorem_noninterference.proofs.Numbered.{numbered, same_numbered, defaults_back}
use Rattle.theorem_noninterference.proofs.Within.{cells_within}
use Rattle.theorem_noninterference.proofs.Readable.{readable_same, numbers_are_words}
use Rattle.theorem_noninterference.proofs.OneLayout.{one_layout, same_facts, default_places_map, same_outside_places, filled_alike}

-- Where the layout puts a reflection's defaults.
abbrev pub places_in : ResourceDef Bytes Bytes → List Text
places_in a = default_places length (layout bytes_facts a).result a

pub record Common (a b : ResourceDef Bytes Bytes) : Type 0 where
  pub same_readable : readable_contents a ≡ readable_contents b
  pub same_words : NumbersAreWords a → NumbersAreWords b
  pub same_length : length (canonical a) ≡ length (canonical b)
  pub same_places : places_in a ≡ places_in b
  pub same_outside : (p : ℕ) → (Covered p (places_in a) → ⊥) → get_or (canonical a) p 0 ≡ get_or (canonical b) p 0

-- One reflection, whose defaults stand for bytes in two ways that look alike.
module _ {N D : Type 0} (f : N → Bytes) (g g' : D → Bytes) (lengths : (d : D) → length (g d) ≡ length (g' d)) (pairs : (d e : D)
    → same_bytes (g d) (g e) ≡ same_bytes (g' d) (g' e)) (r : ResourceDef N D) where
  abbrev L : Placed N D BodyOffsets
  L = layout (through f g bytes_facts) r

  oracles : through f g bytes_facts ≡ through f g' bytes_facts
  oracles = same_facts f g g' lengths pairs

  filled : canonical (map_def f g r) ≡ map (fill_through f g) L.cells
  filled = canonical_through f g r

  filled' : canonical (map_def f g' r) ≡ map (fill_through f g') L.cells
  filled' = canonical_through f g' r ∙ ap (λ (O : TextFacts N D). map (fill_through f g') (layout O r).cells) (sym oracles)

  abbrev places : List Text
  places = default_places (λ d. length (g d)) L.result r

  places_first : places_in (map_def f g r) ≡ places
  places_first = ap (λ p. default_places length p.result (map_def f g r)) (layout_natural f g bytes_facts r) ∙ default_places_map length f g L.result r

  places_second : places_in (map_def f g' r) ≡ places
  places_second =
      ap (λ p. default_places length p.result (map_def f g' r)) (one_layout f g bytes_facts f g' bytes_facts oracles r) ∙ default_places_map length f
      g' L.result r
      ∙ ap (λ (long : D → ℕ). default_places long L.result r) (λ i d. sym (lengths d) i)

  outside : (p : ℕ) → (Covered p places → ⊥) → get_or (canonical (map_def f g r)) p 0 ≡ get_or (canonical (map_def f g' r)) p 0
  unfolding through bytes_facts
  outside p free =
      ap (λ (bytes : Bytes). get_or bytes p 0) filled
      ∙ same_outside_places (fill_through f g) (fill_through f g') (filled_alike f g g') places L.cells 0 p (cells_within (through f g bytes_facts) r)
      (λ c. free (subst (λ (n : ℕ). Covered n places) (zero-add p) c))
      ∙ sym (ap (λ (bytes : Bytes). get_or bytes p 0) filled')

  common : Common (map_def f g r) (map_def f g' r)
  common = record {
    same_readable = readable_same f g g' lengths r;
    same_words = numbers_are_words f g g' r;
    same_length = ap length filled ∙ length-map L.cells (fill_through f g) ∙ sym (ap length filled' ∙ length-map L.cells (fill_through f g'));
    same_places = places_first ∙ sym places_second;
    same_outside = λ p free. outside p (λ c. free (subst (Covered p) (sym places_first) c));
  }

pub same_but_defaults_common : (a b : ResourceDef Bytes Bytes) → SameButDefaults a b → Common a b
same_but_defaults_common a b same =
    let r = numbered a in
    let b-back : map_def (λ n. n) (default_number b) r ≡ b = ap (map_def (λ n. n) (default_number b)) (same_numbered a b same) ∙ defaults_back b in
    subst₂ Common (defaults_back a) b-back (common (λ n. n) (default_number a) (default_number b) same.lengths same.equal_pairs r)

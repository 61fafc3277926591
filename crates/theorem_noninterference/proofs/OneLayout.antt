-- One layout, filled in twice. The layout knows of names and defaults what the oracle says of them: where a reflection's names and defaults stand for two
-- others', and the oracles say the same, both are laid out as that one reflection, and only the bytes filled in can differ.
use mathlib.Core.Path.{◌≡◌, refl, ap, sym, ◌∙◌, subst}
use mathlib.Core.List.{List, [], ◌∷◌, map}
use Prim.Native.Nat.{ℕ, zero, suc, ◌+◌}
use native.Mathlib.Omega.{arith}
use native.Mathlib.Nat.{add-zero}
use lib.ListN.{length, get_or}
use Rattle.text.specs.Same.{same_bytes}
use Rattle.reflection.specs.declared.Text.{Text}
use Rattle.reflection.specs.Reflection.{ResourceDef, map_def}
use Rattle.reflection.specs.Texts.{in_chunk}
use Rattle.reflection.specs.Contents.{Bytes, defaults_of}
use Rattle.write_spec.specs.Step.{Cell, byte, name_byte, default_byte, TextFacts}
use Rattle.write_spec.specs.Records.{BodyOffsets, VariableOffsets}
use Rattle.write_spec.specs.Layout.{layout}
use Rattle.write_spec.specs.Canonical.{bytes_facts}
use Rattle.write_spec.specs.Through.{through, fill_through}
use Rattle.write_spec.proofs.NaturalSteps.{map_placed}
use Rattle.write_spec.proofs.Natural.{layout_natural}
use Rattle.theorem_round_trip.specs.RoundTrip.{places_of, section_offsets, default_places}
use Rattle.theorem_noninterference.specs.Noninterference.{Covered}
use Rattle.theorem_noninterference.proofs.Plain.{OfDefault}
use Rattle.theorem_noninterference.proofs.Within.{Within}
use Rattle.theorem_noninterference.proofs.Readable.{defaults_map}

-- Any two oracles that say the same of what stands for names and defaults.
pub one_layout : {N D M E M' E' : Type 0} (f : N → M) (g : D → E) (O : TextFacts M E) (f' : N → M') (g' : D → E') (O' : TextFacts M' E')
    → through f g O ≡ through f' g' O'
    → (r : ResourceDef N D) → layout O' (map_def f' g' r) ≡ map_placed f' g' (layout (through f g O) r)
one_layout f g O f' g' O' same r = layout_natural f' g' O' r ∙ ap (λ (Q : TextFacts _ _). map_placed f' g' (layout Q r)) (sym same)

-- Defaults of equal lengths, of which the same are equal, look alike to the oracle.
pub same_facts : {N D : Type 0} (f : N → Bytes) (g g' : D → Bytes) → ((d : D) → length (g d) ≡ length (g' d))
    → ((d e : D) → same_bytes (g d) (g e) ≡ same_bytes (g' d) (g' e))
    → through f g bytes_facts ≡ through f g' bytes_facts
unfolding through bytes_facts
same_facts f g g' lengths pairs =
    λ i. record {
      name_length = λ n. length (f n);
      same_name = λ n m. same_bytes (f n) (f m);
      default_length = λ d. lengths d i;
      same_default = λ d e.
          pairs d e i;
    }

-- The places of the defaults are those of what stands for them.
places_map : {D E : Type 0} (long : E → ℕ) (g : D → E) (os : List VariableOffsets) (ds : List D)
    → places_of long os (map g ds) ≡ places_of (λ d. long (g d)) os ds
unfolding places_of
places_map long g [] ds = refl
places_map long g (o ∷ os) [] = refl
places_map long g (o ∷ os) (d ∷ ds) = ap {B = List Text} (λ l. in_chunk o.default (long (g d)) ∷ l) (places_map long g os ds)

pub default_places_map : {N D M E : Type 0} (long : E → ℕ) (f : N → M) (g : D → E) (o : BodyOffsets) (r : ResourceDef N D)
    → default_places long o (map_def f g r) ≡ default_places (λ d. long (g d)) o r
unfolding default_places
default_places_map long f g o r =
    ap (places_of long (section_offsets o.sections)) (defaults_map f g r) ∙ places_map long g (section_offsets o.sections) (defaults_of r)

-- Cells filled in twice, alike but for the cells of defaults, give the same bytes outside the defaults' places.
pub same_outside_places : {N D : Type 0} (one other : Cell N D → ℕ) → ((c : Cell N D) → (OfDefault c → ⊥) → one c ≡ other c)
    → (P : List Text) (cs : List (Cell N D)) (at p : ℕ) → Within at cs P
    → (Covered (at + p) P → ⊥) → get_or (map one cs) p 0 ≡ get_or (map other cs) p 0
same_outside_places one other alike P [] at p w out = refl
same_outside_places one other alike P (c ∷ cs) at zero w out = alike c (λ d. out (subst (λ (n : ℕ). Covered n P) (sym (add-zero at)) (w.0 d)))
same_outside_places one other alike P (c ∷ cs) at (suc p) w out =
    same_outside_places one other alike P cs (suc at) p w.1 (λ h. out
    (subst (λ (n : ℕ). Covered n P) (let e : suc at + p ≡ at + suc p = omega arith in e) h))

-- What is filled in for a name or a known byte does not depend on the defaults.
pub filled_alike : {N D : Type 0} (f : N → Bytes) (g g' : D → Bytes) (c : Cell N D) → (OfDefault c → ⊥) → fill_through f g c ≡ fill_through f g' c
unfolding fill_through
filled_alike f g g' (byte b) free = refl
filled_alike f g g' (name_byte n j) free = refl
filled_alike f g g' (default_byte d j) free = absurd (free tt)

-- NONINTERFERENCE (document 01, demand 3, "the ending stays hidden"; the two reflections are two evenings there). Two reflections share every number and
-- every name, and each default is as long in one as in the other; two defaults are equal in one exactly when the same two are in the other. Only the
-- defaults' bytes differ. Then, for equal room, both get the same refusal, or both are written, and what is written is alike in its length, in the place of
-- each default as `read` finds it in the written bytes, and in every byte outside the defaults; and at the place of each default stand exactly that
-- reflection's own bytes. proofs/Noninterference.antt proves it.
--
-- Definitions that this rests on: a reflection (`ResourceDef`, crate reflection), `read` (crate read_spec), `write`, the canonical writer's whole answer
-- (crate write_spec), which the contract of `write_rdef_canonical` cites.
use Rattle.reflection.specs.declared.refusal.Refusal.{Refusal}
use Rattle.std.specs.Prelude.{◌≡◌, ◌⊎◌, List, [], ◌∷◌, map, ℕ, ◌+◌, ◌<◌, ◌≤◌, length, get_or, Some, Ok, Err}
use Rattle.text.specs.Same.{same_bytes}
use Rattle.reflection.specs.declared.Text.{Text}
use Rattle.reflection.specs.Reflection.{ResourceDef, map_def}
use Rattle.reflection.specs.Texts.{text_bytes}
use Rattle.reflection.specs.Contents.{Bytes, defaults_of}
use Rattle.read_spec.specs.Step.{full_room}
use Rattle.read_spec.specs.Read.{read}
use Rattle.write_spec.specs.Canonical.{canonical}
use Rattle.write_spec.specs.Outcome.{write}

-- Default number i, counted over all variables; empty past the last.
unfoldable pub default_number : ResourceDef Bytes Bytes → ℕ → Bytes
default_number r i = get_or (defaults_of r) i []

-- A reflection without its defaults: every number and every name.
unfoldable pub without_defaults : ResourceDef Bytes Bytes → ResourceDef Bytes (Unit {0})
without_defaults r = map_def (λ n. n) (λ d. tt) r

-- Two reflections that share all but the bytes of their defaults.
pub record SameButDefaults (a b : ResourceDef Bytes Bytes) : Type 0 where
  pub numbers_and_names : without_defaults a ≡ without_defaults b
  pub lengths : (i : ℕ) → length (default_number a i) ≡ length (default_number b i)
  pub equal_pairs : (i j : ℕ) → same_bytes (default_number a i) (default_number a j) ≡ same_bytes (default_number b i) (default_number b j)

-- A byte's index lies in one of these texts; an empty text covers nothing.
abbrev pub Covered : ℕ → List Text → Type 0
Covered p [] = ⊥
Covered p (t ∷ ts) = ((t.place ≤ p) × (p < t.place + t.length)) ⊎ Covered p ts

-- What reading finds in one reflection's written bytes: a reflection whose defaults lie at these places, with exactly that reflection's own bytes there.
pub record DefaultsAt (a : ResourceDef Bytes Bytes) (places : List Text) : Type 0 where
  pub found : ResourceDef Text Text
  pub reads : read full_room (canonical a) ≡ Ok found
  pub at_places : defaults_of found ≡ places
  pub own_bytes : map (text_bytes (canonical a) []) places ≡ defaults_of a

-- Both reflections were written, and are alike in all but the defaults' own bytes.
pub record Alike (a b : ResourceDef Bytes Bytes) : Type 0 where
  pub places : List Text
  pub in-a : DefaultsAt a places
  pub in_b : DefaultsAt b places
  pub same_length : length (canonical a) ≡ length (canonical b)
  pub same_outside : (p : ℕ) → (Covered p places → ⊥) → get_or (canonical a) p 0 ≡ get_or (canonical b) p 0

-- With so much scratch and output: the same refusal, or both written and alike.
pub data Indistinguishable (scratch room : ℕ) (a b : ResourceDef Bytes Bytes) : Type 0 where
  both_refused : (e : Refusal) → write scratch room (Some a) ≡ Err e → write scratch room (Some b) ≡ Err e → Indistinguishable scratch room a b
  both_written : write scratch room (Some a) ≡ Ok (canonical a) → write scratch room (Some b) ≡ Ok (canonical b) → Alike a b
      → Indistinguishable scratch room a b

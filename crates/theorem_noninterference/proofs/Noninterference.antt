-- NONINTERFERENCE (specs/Noninterference.antt), proved. The layout asks two things of a default: how long it is, and which others equal it. Both reflections
-- answer alike, so theirs is one layout, filled in twice (SameButDefaults.antt); a cell with a byte of a default lies in a default's place (Within.antt), and
-- that is where reading finds the default, with its own bytes (crate theorem_round_trip). What refusals hang on agrees too (Answers.antt).
use mathlib.Core.Path.{ap, sym, ◌∙◌, subst}
use mathlib.Core.List.{[], map}
use Prim.Native.Nat.{ℕ, ◌≤◌}
use Rattle.reflection.specs.Limits.{chunk_limit}
use Rattle.reflection.specs.declared.Text.{Text}
use Rattle.reflection.specs.Reflection.{ResourceDef}
use Rattle.reflection.specs.Texts.{text_bytes}
use Rattle.reflection.specs.Contents.{Bytes, contents, defaults_of}
use Rattle.write_spec.specs.Canonical.{canonical}
use Rattle.theorem_round_trip.specs.RoundTrip.{NumbersAreWords, Restored}
use Rattle.theorem_round_trip.proofs.RoundTrip.{round_trip}
use Rattle.theorem_noninterference.specs.Noninterference.{SameButDefaults, DefaultsAt, Alike, Indistinguishable}
use Rattle.theorem_noninterference.proofs.Readable.{defaults_map}
use Rattle.theorem_noninterference.proofs.SameButDefaults.{places_in, Common, same_but_defaults_common}
use Rattle.theorem_noninterference.proofs.Answers.{same_answers}

-- Where reading finds one reflection's defaults.
defaults_at : (a : ResourceDef Bytes Bytes) → Restored a → DefaultsAt a (places_in a)
unfolding contents
defaults_at a back = record {
  found = back.read_back;
  reads = back.reads;
  at_places = back.default_places;
  own_bytes = ap (map bytes) (sym back.default_places) ∙ sym (defaults_map bytes bytes back.read_back) ∙ ap defaults_of back.restored;
}
  where
    bytes : Text → Bytes
    bytes = text_bytes (canonical a) []

alike : (a b : ResourceDef Bytes Bytes) → Common a b → Restored a → Restored b → Alike a b
alike a b common back_a back-b = record {
  places = places_in a;
  in-a = defaults_at a back_a;
  in_b = subst (DefaultsAt b) (sym common.same_places) (defaults_at b back-b);
  same_length = common.same_length;
  same_outside = common.same_outside;
}

pub canonical_noninterference : (scratch room : ℕ) (a b : ResourceDef Bytes Bytes) → NumbersAreWords a → SameButDefaults a b
    → Indistinguishable scratch room a b
canonical_noninterference scratch room a b words same =
    same_answers scratch room a b common λ readable short.
    let back_a = round_trip a readable words short in
    let back-b = round_trip b (sym common.same_readable ∙ readable) (common.same_words words)
    (subst (λ (n : ℕ). n ≤ chunk_limit) common.same_length short) in
    alike a b common back_a back-b
  where
    common : Common a b
    common = same_but_defaults_common a b same

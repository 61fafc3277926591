-- What was found in a chunk, by the answer; and that a record reads as the chunk does from its place on.
use Rattle.std.specs.Prelude.{Option, None, Some, Ok, Err, ok_or}
use mathlib.Core.Path.{◌≡◌, refl, ap, ◌∙◌}
use mathlib.Core.Bool.{Bool}
use mathlib.Core.List.{List}
use Prim.Native.Nat.{ℕ}
use Rattle.text.specs.declared.Span.{Span}
use Rattle.text.specs.Strings.{span}
use Rattle.reflection.specs.declared.Text.{Text}
use Rattle.reflection.specs.declared.refusal.Refusal.{Refusal}
use Rattle.reflection.specs.Texts.{in_chunk}
use Rattle.read_types.specs.declared.chunk.Chunk.{Chunk}
use Rattle.read_types.specs.declared.chunk.Record.{Record}
use Rattle.read_types.specs.Found.{text_in, found_or}
use Rattle.read_types.specs.Chunk.{RecordAt}
use Rattle.read_types.proofs.Names.{or_refused}

-- Nothing was found.
pub record NotFound (found : Option Span) (e x : Refusal) : Type 0 where
  pub none : found ≡ None
  pub refusal : x ≡ e

-- A text was found: k bytes from `place` on.
pub record FoundText (found : Option Span) (text : Text) : Type 0 where
  pub place : ℕ
  pub k : ℕ
  pub some : found ≡ Some (span place k)
  pub is : text ≡ in_chunk place k

pub not_found : {e x : Refusal} (found : Option Span) → Err x ≡ found_or e found → NotFound found e x
not_found (Some w) h = cc
not_found None h = record { none = refl; refusal = cc }

pub text_found : (e : Refusal) {text : Text} (found : Option Span) → Ok text ≡ found_or e found → FoundText found text
text_found e (Some w) h = record { place = w.place; k = w.length; some = refl; is = cc }
text_found e None h = cc

-- The same of a text that may not be there.
pub none_found : {e x : Refusal} (found : Option Span) {o : Option Text} → o ≡ text_in found → Err x ≡ ok_or o e → NotFound found e x
none_found {e} found is h = not_found found (h ∙ ap (λ (o : Option Text). ok_or o e) is ∙ or_refused found e)

pub some_found : (e : Refusal) {text : Text} (found : Option Span) {o : Option Text} → o ≡ text_in found → Ok text ≡ ok_or o e → FoundText found text
some_found e found is h = text_found e found (h ∙ ap (λ (o : Option Text). ok_or o e) is ∙ or_refused found e)

-- What is read of a record is what is read of the chunk at its place.
pub in_record : {A : Type 0} (f : List ℕ → Bool → Bool → ℕ → A) {chunk : Chunk} {at size : ℕ} {r : Record} → RecordAt chunk at size r
    → f r.chunk.bytes.now r.chunk.sm5 r.chunk.wide r.at ≡ f chunk.bytes.now chunk.sm5 chunk.wide at
in_record f p = λ i. f (p.bytes i) (p.sm5 i) (p.wide i) (p.begins i)

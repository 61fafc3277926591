-- What reading one buffer appends: each law follows the steps of `read_buffer` up to the first that ends the walk.
use Rattle.reflection.specs.Outcome.{Outcome}
use Rattle.text.specs.declared.Span.{Span}
use Rattle.std.specs.Prelude.{Option, None, Ok, Err, Some}
use Rattle.reflection.specs.declared.refusal.Refusal.TheVariants.{RecordPastEnd, BadName, NoRoom}
use Rattle.reflection.specs.declared.refusal.Refusal.{Refusal}
use mathlib.Core.Path.{◌≡◌, refl, sym, ap, ◌∙◌}
use mathlib.Core.Bool.{Bool, true, false}
use mathlib.Core.List.{List, ◌++◌}
use Prim.Native.Nat.{ℕ, ◌+◌, ◌*◌, ◌≤◌, ◌<◌}
use native.Mathlib.Omega.{arith}
use lib.ListN.{length, take}
use Rattle.words.specs.Words.{word_at}
use Rattle.words.specs.Parts.{inside}
use Rattle.text.specs.Strings.{span}
use Rattle.text.specs.Strings.{cstring_at}
use Rattle.reflection.specs.Limits.{buffer_width}
use Rattle.reflection.specs.Strides.{buffer_stride}
use Rattle.reflection.specs.declared.Text.{Text}
use Rattle.reflection.specs.declared.CBufferDef.{CBufferDef as BufferRecord}
use Rattle.reflection.specs.Reflection.{CBufferVariable, CBufferDef}
use Rattle.reflection.specs.Texts.{in_chunk}
use Rattle.tables.specs.Records.{buffer_words_in_table, put_record}
use Rattle.tables.specs.Tables.{buffer_record}
use Rattle.read_spec.specs.declared.Counts.{Counts}
use Rattle.read_spec.specs.Step.{Room, and_then, ◌>>=◌, return, text_or, Walk}
use Rattle.read_spec.specs.Read.{read_many, read_variable, read_buffer, variable_stride, buffer_from_chunk}
use Rattle.read_spec.proofs.Steps.{check_holds, check_fails, bind_is, text_found, text_bad, Gives, many_length}
use Rattle.read_types.specs.Progress.{Progress, stopped, reached, progress, onward, append_all}
use Rattle.read_types.specs.Walked.{HasRoom, room_left, answered, Walked}
use Rattle.read_tables.specs.Variables.{append_variable, variables_progress, variables_in, up_to_variables}
use Rattle.read_tables.specs.Buffers.{TableWords, append_buffer, buffer_record_in_chunk, buffers_in}
use Rattle.read_tables.proofs.Put.{record_put}
use Rattle.read_tables.proofs.Taking.{with_buffer, no_buffer, one_buffer_lem}

-- The buffer's name is looked at last: its record goes after the words `buffers`, where the name is good.
abbrev if_named : List ℕ → ℕ → List ℕ → Option Span → List ℕ × List ℕ → Room → Progress TableWords
if_named s at buffers (Some t) w r = reached (buffers ++ buffer_words_in_table (buffer_record_in_chunk s at (in_chunk t.place t.length)), w) r
if_named s at buffers None w r = stopped BadName

module _ (s : List ℕ) (sm5 : Bool) (at : ℕ) (capacity n : Counts) (w : TableWords) where
  abbrev appended : Outcome (CBufferDef Text Text × Room) → Progress TableWords
  appended x = progress append_buffer x w

  abbrev one : Progress TableWords
  one = appended (read_buffer s sm5 at (room_left capacity n))

  pub buffer_full : capacity.buffers ≤ n.buffers → one ≡ stopped NoRoom
  unfolding read_buffer
  buffer_full full = ap appended (no_buffer capacity n _ full)

  pub buffer_short : n.buffers < capacity.buffers → inside (length s) at buffer_stride ≡ false → one ≡ stopped RecordPastEnd
  unfolding read_buffer
  buffer_short free short = ap appended (one_buffer_lem capacity n _ free ∙ check_fails _ _ _ _ short)

  -- its variables, and then its record: as many variables are read as the record says
  buffer_read : n.buffers < capacity.buffers → inside (length s) at buffer_stride ≡ true
      → one
      ≡ onward (if_named s at w.0 (cstring_at s (word_at s at)))
      (variables_progress s sm5 (word_at s (at + 4)) (word_at s (at + 8)) w.1 (room_left capacity (with_buffer n)))
  unfolding read_buffer return append_buffer buffer_record buffer_from_chunk buffer_record_in_chunk
  buffer_read free fits =
      ap appended (one_buffer_lem capacity n _ free ∙ check_holds _ _ _ _ fits ∙ bind_is _ _ _)
      ∙ after_variables (read_many (read_variable s sm5) (variable_stride sm5) (word_at s (at + 4)) (word_at s (at + 8)) (room_left capacity (with_buffer n)))
      (many_length (read_variable s sm5) (variable_stride sm5) (word_at s (at + 4)) (word_at s (at + 8)) (room_left capacity (with_buffer n)))
    where
      row : ℕ → ℕ → ℕ → List ℕ
      row count place n =
          buffer_words_in_table (record {
            name = in_chunk place n;
            variable_count = count;
            size = word_at s (at + 12);
            flags = word_at s (at + 16);
            cb_type = word_at s (at + 20);
          })

      named : (xs : List (CBufferVariable Text Text)) (r : Room) → length xs ≡ word_at s (at + 4) → (found : Option Span) → cstring_at s (word_at s at) ≡ found
          → appended ((text_or BadName (cstring_at s (word_at s at)) >>= λ name. return (buffer_from_chunk s at name xs)) r)
          ≡ if_named s at w.0 found (append_all append_variable xs w.1) r
      named xs r counted (Some t) found =
          ap appended (text_found _ _ _ _ t.place t.length found)
          ∙ ap (λ (count : ℕ). reached (w.0 ++ row count t.place t.length, append_all append_variable xs w.1) r) counted
      named xs r counted None found = ap appended (text_bad _ _ _ _ found)

      after_variables : (y : Outcome (List (CBufferVariable Text Text) × Room)) → Gives (λ xs. length xs ≡ word_at s (at + 4)) y
          → appended (and_then y (λ xs. text_or BadName (cstring_at s (word_at s at)) >>= λ name. return (buffer_from_chunk s at name xs)))
          ≡ onward (if_named s at w.0 (cstring_at s (word_at s at))) (progress (append_all append_variable) y w.1)
      after_variables (Ok z) counted = named z.0 z.1 counted (cstring_at s (word_at s at)) refl
      after_variables (Err e) counted = refl

-- The buffer passed its tests, and `many` variables lie from `start` on.
pub record BufferEntered (s : List ℕ) (at : ℕ) (capacity n : Counts) (many start : ℕ) : Type 0 where
  pub free : n.buffers < capacity.buffers
  pub fits : inside (length s) at buffer_stride ≡ true
  pub is_many : many ≡ word_at s (at + 4)
  pub is_start : start ≡ word_at s (at + 8)

-- Its variables were walked: what that walk left is what reading the buffer appends, where its name is good.
module _ {s : List ℕ} {at : ℕ} {capacity n : Counts} {many start : ℕ} (f : BufferEntered s at capacity n many start) (sm5 : Bool)
    (buffers variables types variables₁ types₁ : List ℕ) where
  abbrev walked : Walk → Type 0
  walked r =
      Walked (variables_progress s sm5 many start) capacity (up_to_variables capacity (with_buffer n)) (with_buffer n)
      (variables_in variables types) (variables_in variables₁ types₁) r

  abbrev buffer : Progress TableWords
  buffer = progress append_buffer (read_buffer s sm5 at (room_left capacity n)) (buffers_in buffers variables types n)

  filled : (found : Option Span) → cstring_at s (word_at s at) ≡ found → (r : Walk) → walked r
      → buffer ≡ onward (if_named s at (take (n.buffers * buffer_width) buffers) found) (answered capacity (variables_in variables₁ types₁) r)
  filled found is r walk =
      let named : Option Span → Progress (List ℕ × List ℕ) → Progress TableWords =
      λ (x : Option Span). onward (if_named s at (take (n.buffers * buffer_width) buffers) x) in
      let left : Room = room_left capacity (with_buffer n) in
      buffer_read s sm5 at capacity n (buffers_in buffers variables types n) f.free f.fits
      ∙ (λ i. named (is i) (variables_progress s sm5 (sym f.is_many i) (sym f.is_start i) (variables_in variables types n) left))
      ∙ ap (named found) walk.outcome

  pub buffer_refused : {e : Refusal} → walked (Err e) → buffer ≡ stopped e
  buffer_refused {e} walk = filled (cstring_at s (word_at s at)) refl (Err e) walk

  module _ {m : Counts} (walk : walked (Ok m)) where
    pub buffer_named_badly : cstring_at s (word_at s at) ≡ None → buffer ≡ stopped BadName
    buffer_named_badly bad = filled None bad (Ok m) walk

    pub buffer_filled : HasRoom buffer_width capacity.buffers n.buffers buffers
        → {place k : ℕ} → cstring_at s (word_at s at) ≡ Some (span place k) → {name : Text} → name ≡ in_chunk place k
        → {written : BufferRecord} → written ≡ buffer_record_in_chunk s at name
        → {buffers₁ : List ℕ} → buffers₁ ≡ put_record buffer_width buffers n.buffers (buffer_words_in_table written)
        → buffer ≡ reached (buffers_in buffers₁ variables₁ types₁ m) (room_left capacity m)
    unfolding buffer_words_in_table
    buffer_filled room {place} {k} found is_name {written} is {buffers₁} put =
        let words : List ℕ = buffer_words_in_table (buffer_record_in_chunk s at (in_chunk place k)) in
        let counted : n.buffers + 1 ≡ m.buffers = omega (arith, walk.grew.buffers.low, walk.grew.buffers.high) in
        let is-record : written ≡ buffer_record_in_chunk s at (in_chunk place k) = is ∙ ap (buffer_record_in_chunk s at) is_name in
        filled (Some (span place k)) found (Ok m) walk
        ∙ ap (λ (x : List ℕ). reached (x, variables_in variables₁ types₁ m) (room_left capacity m))
        (sym (record_put n.buffers buffers words room f.free put (ap buffer_words_in_table is-record) refl)
        ∙ ap (λ (x : ℕ). take (x * buffer_width) buffers₁) counted)

-- What reading one variable appends: each law follows the steps of `read_variable` up to the first that ends the walk.
use Rattle.reflection.specs.Outcome.{Outcome}
use Rattle.std.specs.Prelude.{None, Ok, Err, Some}
use Rattle.reflection.specs.declared.refusal.Refusal.TheVariants.{RecordPastEnd, BadName, DefaultPastEnd, NoRoom}
use Rattle.reflection.specs.declared.refusal.Refusal.{Refusal}
use mathlib.Core.Path.{◌≡◌, refl, sym, ap, ◌∙◌}
use mathlib.Core.Bool.{Bool, true, false}
use mathlib.Core.List.{List, [], ◌++◌}
use Prim.Native.Nat.{ℕ, ◌+◌, ◌*◌, ◌≤◌, ◌<◌}
use native.Mathlib.Omega.{arith}
use lib.ListN.{length, take}
use Rattle.words.specs.Words.{word_at}
use Rattle.words.specs.Parts.{inside}
use Rattle.text.specs.Strings.{span}
use Rattle.text.specs.Strings.{cstring_at}
use Rattle.reflection.specs.Limits.{variable_width, type_levels}
use Rattle.reflection.specs.declared.Text.{Text}
use Rattle.reflection.specs.declared.CBufferVariable.{CBufferVariable as VariableRecord}
use Rattle.reflection.specs.Reflection.{TypeDesc, CBufferVariable}
use Rattle.reflection.specs.Texts.{in_chunk}
use Rattle.tables.specs.Records.{variable_words_in_table, put_record}
use Rattle.tables.specs.Tables.{variable_record}
use Rattle.read_spec.specs.declared.Counts.{Counts}
use Rattle.read_spec.specs.Step.{Room, and_then, return, Walk}
use Rattle.read_spec.specs.Read.{read_variable, read_type, variable_stride, variable_from_chunk, default_at}
use Rattle.read_spec.proofs.Steps.{check_holds, check_fails, bind_is, text_found, text_bad}
use Rattle.read_types.specs.Progress.{Progress, stopped, reached, progress, onward}
use Rattle.read_types.specs.Walked.{HasRoom, room_left, answered, Walked}
use Rattle.read_types.specs.Walk.{append_type, type_progress, nodes_in, up_to_types}
use Rattle.read_tables.specs.Variables.{append_variable, variable_record_in_chunk, variables_in}
use Rattle.read_tables.proofs.Put.{record_put}
use Rattle.read_tables.proofs.Taking.{with_variable, no_variable, one_variable}

-- A variable's record, and then the nodes of its type.
abbrev recorded : List ℕ → Progress (List ℕ) → Progress (List ℕ × List ℕ)
recorded w = onward (λ nodes r. reached (w, nodes) r)

module _ (s : List ℕ) (sm5 : Bool) (at : ℕ) (capacity n : Counts) (w : List ℕ × List ℕ) where
  abbrev appended : Outcome (CBufferVariable Text Text × Room) → Progress (List ℕ × List ℕ)
  appended x = progress append_variable x w

  abbrev one : Progress (List ℕ × List ℕ)
  one = appended (read_variable s sm5 at (room_left capacity n))

  pub variable_full : capacity.variables ≤ n.variables → one ≡ stopped NoRoom
  unfolding read_variable
  variable_full full = ap appended (no_variable capacity n _ full)

  module _ (free : n.variables < capacity.variables) where
    pub variable_short : inside (length s) at (variable_stride sm5) ≡ false → one ≡ stopped RecordPastEnd
    unfolding read_variable
    variable_short short = ap appended (one_variable capacity n _ free ∙ check_fails _ _ _ _ short)

    module _ (fits : inside (length s) at (variable_stride sm5) ≡ true) where
      pub variable_default_outside : default_at s (word_at s (at + 20)) (word_at s (at + 8)) ≡ None → one ≡ stopped DefaultPastEnd
      unfolding read_variable
      variable_default_outside outside = ap appended (one_variable capacity n _ free ∙ check_holds _ _ _ _ fits ∙ text_bad _ _ _ _ outside)

      module _ (dplace dlength : ℕ) (default : default_at s (word_at s (at + 20)) (word_at s (at + 8)) ≡ Some (span dplace dlength)) where
        pub variable_named_badly : cstring_at s (word_at s at) ≡ None → one ≡ stopped BadName
        unfolding read_variable
        variable_named_badly bad =
            ap appended (one_variable capacity n _ free ∙ check_holds _ _ _ _ fits ∙ text_found _ _ _ _ dplace dlength default ∙ text_bad _ _ _ _ bad)

        variable_read : (place k : ℕ) → cstring_at s (word_at s at) ≡ Some (span place k)
            → one
            ≡ recorded (w.0 ++ variable_words_in_table (variable_record_in_chunk s sm5 at (in_chunk place k) (in_chunk dplace dlength)))
            (type_progress s sm5 type_levels [] (word_at s (at + 16)) (in_chunk 0 0) 0 w.1 (room_left capacity (with_variable n)))
        unfolding read_variable type_progress return append_variable variable_record variable_from_chunk variable_record_in_chunk
        variable_read place k found =
            ap appended
            (one_variable capacity n _ free
            ∙ check_holds _ _ _ _ fits
            ∙ text_found _ _ _ _ dplace dlength default
            ∙ text_found _ _ _ _ place k found
            ∙ bind_is _ _ _)
            ∙ typed (read_type s sm5 type_levels [] (word_at s (at + 16)) (room_left capacity (with_variable n)))
          where
            typed : (y : Outcome (TypeDesc Text × Room))
                → appended (and_then y (λ type. return (variable_from_chunk s sm5 at (in_chunk place k) (in_chunk dplace dlength) type)))
                ≡ recorded (w.0 ++ variable_words_in_table (variable_record_in_chunk s sm5 at (in_chunk place k) (in_chunk dplace dlength)))
                (progress (append_type (in_chunk 0 0) 0) y w.1)
            typed (Ok z) = refl
            typed (Err e) = refl

-- The variable passed its tests, its record is written, and its type lies at `below`.
pub record VariableWritten (s : List ℕ) (sm5 : Bool) (at : ℕ) (capacity n : Counts) (variables variables₁ : List ℕ) (below : ℕ) : Type 0 where
  pub free : n.variables < capacity.variables
  pub fits : inside (length s) at (variable_stride sm5) ≡ true
  pub dplace : ℕ
  pub dlength : ℕ
  pub default : default_at s (word_at s (at + 20)) (word_at s (at + 8)) ≡ Some (span dplace dlength)
  pub place : ℕ
  pub k : ℕ
  pub found : cstring_at s (word_at s at) ≡ Some (span place k)
  pub taken : take ((n.variables + 1) * variable_width) variables₁
      ≡ take (n.variables * variable_width) variables ++ variable_words_in_table (variable_record_in_chunk s sm5 at (in_chunk place k) (in_chunk dplace dlength))
  pub is_below : below ≡ word_at s (at + 16)

-- A variable's record, written after those that the table has.
pub variable_put : (s : List ℕ) (sm5 : Bool) (at : ℕ) (capacity n : Counts) (variables : List ℕ)
    → HasRoom variable_width capacity.variables n.variables variables → n.variables < capacity.variables
    → {place k dplace dlength : ℕ} {name default : Text} → name ≡ in_chunk place k → default ≡ in_chunk dplace dlength
    → {variable : VariableRecord} → variable ≡ variable_record_in_chunk s sm5 at name default
    → {variables₁ : List ℕ} → variables₁ ≡ put_record variable_width variables n.variables (variable_words_in_table variable)
    → take ((n.variables + 1) * variable_width) variables₁
    ≡ take (n.variables * variable_width) variables ++ variable_words_in_table (variable_record_in_chunk s sm5 at (in_chunk place k) (in_chunk dplace dlength))
unfolding variable_words_in_table
variable_put s sm5 at capacity n variables room free {place} {k} {dplace} {dlength} is_name is-default {variable} is put =
    let words : Text → Text → List ℕ = λ (x : Text) (y : Text). variable_words_in_table (variable_record_in_chunk s sm5 at x y) in
    record_put n.variables variables (words (in_chunk place k) (in_chunk dplace dlength)) room free put
    (ap variable_words_in_table is ∙ (λ i. words (is_name i) (is-default i))) refl

-- Its type was walked: what that walk left is what reading the variable appends.
module _ {s : List ℕ} {sm5 : Bool} {at : ℕ} {capacity n : Counts} {variables variables₁ : List ℕ} {below : ℕ}
    (v : VariableWritten s sm5 at capacity n variables variables₁ below) (types types₁ : List ℕ) where
  abbrev walked : Walk → Type 0
  walked r =
      Walked (type_progress s sm5 type_levels [] below (in_chunk 0 0) 0) capacity (up_to_types capacity (with_variable n)) (with_variable n)
      (nodes_in types) (nodes_in types₁) r

  abbrev variable : Progress (List ℕ × List ℕ)
  variable = progress append_variable (read_variable s sm5 at (room_left capacity n)) (variables_in variables types n)

  typed : (r : Walk) → walked r → variable ≡ recorded (take ((n.variables + 1) * variable_width) variables₁) (answered capacity (nodes_in types₁) r)
  typed r type =
      let left : Room = room_left capacity (with_variable n) in
      variable_read s sm5 at capacity n (variables_in variables types n) v.free v.fits v.dplace v.dlength v.default v.place v.k v.found
      ∙ (λ i. recorded (sym v.taken i) (type_progress s sm5 type_levels [] (sym v.is_below i) (in_chunk 0 0) 0 (nodes_in types n) left))
      ∙ ap (recorded (take ((n.variables + 1) * variable_width) variables₁)) type.outcome

  pub variable_refused : {e : Refusal} → walked (Err e) → variable ≡ stopped e
  variable_refused {e} type = typed (Err e) type

  pub variable_filled : {m : Counts} → walked (Ok m) → variable ≡ reached (variables_in variables₁ types₁ m) (room_left capacity m)
  variable_filled {m} type =
      let counted : n.variables + 1 ≡ m.variables = omega (arith, type.grew.variables.low, type.grew.variables.high) in
      typed (Ok m) type ∙ ap (λ (k : ℕ). reached (take (k * variable_width) variables₁, nodes_in types₁ m) (room_left capacity m)) counted

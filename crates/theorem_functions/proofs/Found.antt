-- Where `parse_rdef` finds the defaults: the places in the variables' table that it left are those of what was read.
use Rattle.std.specs.Prelude.{Some}
use mathlib.Core.Path.{◌≡◌, refl, sym, ap, ◌∙◌}
use mathlib.Core.List.{List, [], ◌∷◌, map}
use Prim.Native.Nat.{ℕ, ◌/◌}
use lib.Dec.{leb}
use lib.ListN.{length, length-map}
use Rattle.reflection.specs.declared.Text.{Text}
use Rattle.reflection.specs.declared.CBufferVariable.{CBufferVariable as VariableRecord}
use Rattle.reflection.specs.Limits.{variable_width}
use Rattle.reflection.specs.Reflection.{CBufferVariable, ResourceDef}
use Rattle.tables.specs.Records.{variable_at}
use Rattle.tables.specs.Tables.{padded, variable_record, variable_rows}
use Rattle.reflection.specs.Reflection.{all_variables}
use Rattle.tables.specs.Decode.{records_from, first_records}
use Rattle.reflection.specs.Contents.{defaults_of}
use Rattle.tables.proofs.Decode.{first_variables}
use Rattle.tables.proofs.Options.{some_was, check_was}
use Rattle.theorem_functions.specs.Calls.{Left}
use Rattle.theorem_functions.specs.Noninterference.{places_found}

records_back : (n : ℕ) (xs : List VariableRecord) (count : ℕ) (t : List ℕ) → count ≡ length xs → first_records variable_width variable_at t count ≡ Some xs
    → records_from (variable_at t) 0 count ≡ xs
unfolding first_records
records_back n xs count t is e =
    let (inside, e₁) = check_was (leb count (length t / variable_width)) _ xs e in
    some_was e₁

record_defaults : (vs : List (CBufferVariable Text Text)) → map (λ (v : VariableRecord). v.default_value) (map variable_record vs)
    ≡ map (λ v. v.default-value) vs
unfolding variable_record
record_defaults [] = refl
record_defaults (v ∷ vs) = ap (λ (l : List Text). v.default-value ∷ l) (record_defaults vs)

pub places_read : (d : ResourceDef Text Text) (n : ℕ) (after : Left) → after.found_variables ≡ padded n (variable_rows d)
    → places_found (length (all_variables d.constant_buffers)) after ≡ defaults_of d
unfolding places_found defaults_of variable_rows
places_read d n after is =
    let vs = all_variables d.constant_buffers in
    let count : length vs ≡ length (map variable_record vs) = sym (length-map vs variable_record) in
    ap (λ (t : List ℕ). map (λ (v : VariableRecord). v.default_value) (records_from (variable_at t) 0 (length vs))) is
    ∙ ap (map (λ (v : VariableRecord). v.default_value)) (records_back n (map variable_record vs) (length vs) _ count
    (first_variables n (length vs) (map variable_record vs) count))
    ∙ record_defaults vs

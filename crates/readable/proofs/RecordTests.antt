-- What the definitions say of a record, as the code joins its tests, of the records from one on, the first and then the others, and of a name by its source.
use mathlib.Core.Path.{◌≡◌, refl, sym, ap, ◌∙◌}
use mathlib.Core.Bool.{Bool, true, false, ◌&&◌, ◌||◌, not, and-true}
use mathlib.Core.List.{List, [], ◌∷◌}
use Prim.Native.Nat.{ℕ, zero, suc, ◌+◌, ◌-◌, ◌≤◌, ◌<◌}
use native.Mathlib.Omega.{arith}
use Rattle.std.specs.List.{list_all, range_with_len}
use lib.Dec.{eqb, leb, ltb, leb-suc-suc}
use lib.ListN.{length}
use Rattle.words.specs.Parts.{inside, part}
use Rattle.codes.specs.Table.{known}
use Rattle.codes.specs.Microsoft.{input_types, srv_dimensions}
use Rattle.flags.specs.Flags.{binding_flags_allowed}
use Rattle.reflection.specs.declared.Text.{Text}
use Rattle.reflection.specs.declared.ResourceBinding.{ResourceBinding as BindingRecord}
use Rattle.reflection.specs.declared.TypeDesc.{TypeDesc as TypeRecord}
use Rattle.tables.specs.Records.{buffer_at}
use Rattle.tables.specs.Decode.{records_from, binding_from_table, node_from_table}
use Rattle.reflection.specs.Contents.{Bytes}
use Rattle.reflection.specs.Fits.{fits_u16}
use Rattle.reflection.specs.Limits.{u16_limit}
use Rattle.reflection.proofs.TextParts.{place_in_chunk, bytes_in_chunk}
use Rattle.readable.specs.Readable.{every, name_readable, zero_unless, binding_readable, numbers_readable}
use Rattle.readable.specs.Checks.{name_checked, binding_checked, buffers_take, buffers_checked, node_checked}
use Rattle.readable.proofs.Bools.{tests-in-order}

-- A binding and a node.
pub binding_tested : (chunk edits : Bytes) (wide : Bool) (b : BindingRecord) → binding_checked chunk edits wide b
    ≡ (name_checked chunk edits b.name
    && (known input_types b.input_type
    && (known srv_dimensions b.dimension && (binding_flags_allowed b.flags.0 && (wide || (eqb b.space 0 && eqb b.id 0))))))
unfolding binding_checked binding_readable binding_from_table zero_unless every
binding_tested chunk edits true b = refl
binding_tested chunk edits false b = simp and-true

sixteen_bits : (n : ℕ) → leb n 65535 ≡ ltb n u16_limit
sixteen_bits n = sym (leb-suc-suc n 65535)

in_node_order : (class var rows columns elements count e0 e1 e2 e3 unnamed named : Bool)
    → (((class && (var && (rows && (columns && (elements && true))))) && (e0 && (e1 && (e2 && (e3 && true))))) && (count && ((unnamed && true) && named)))
    ≡ ((class && (var && (rows && (columns && (elements && count))))) && ((e0 && (e1 && (e2 && (e3 && unnamed)))) && named))
in_node_order class var rows columns elements count e0 e1 e2 e3 unnamed named = simp (and-true, tests-in-order)

sm5_in_order : (class var rows columns elements count named : Bool)
    → (((class && (var && (rows && (columns && (elements && true))))) && true) && (count && named))
    ≡ ((class && (var && (rows && (columns && (elements && count))))) && named)
sm5_in_order class var rows columns elements count named = simp (and-true, tests-in-order)

pub node_tested : (chunk edits : Bytes) (sm5 inner : Bool) (t : TypeRecord) → node_checked chunk edits sm5 inner (node_from_table t)
    ≡ (fits_u16 t
    && ((sm5 || (eqb t.extra0 0 && (eqb t.extra1 0 && (eqb t.extra2 0 && (eqb t.extra3 0 && eqb t.name.length 0)))))
    && (name_checked chunk edits t.name && (not inner || name_checked chunk edits t.member_name))))
unfolding node_checked node_from_table numbers_readable zero_unless every fits_u16
node_tested chunk edits true inner t =
    simp sixteen_bits (sm5_in_order (ltb t.class u16_limit) (ltb t.var_type u16_limit) (ltb t.rows u16_limit) (ltb t.columns u16_limit)
    (ltb t.elements u16_limit) (ltb t.member_count u16_limit) (name_checked chunk edits t.name && (not inner || name_checked chunk edits t.member_name)))
node_tested chunk edits false inner t =
    simp sixteen_bits (in_node_order (ltb t.class u16_limit) (ltb t.var_type u16_limit) (ltb t.rows u16_limit) (ltb t.columns u16_limit)
    (ltb t.elements u16_limit) (ltb t.member_count u16_limit) (eqb t.extra0 0) (eqb t.extra1 0) (eqb t.extra2 0) (eqb t.extra3 0) (eqb t.name.length 0)
    (name_checked chunk edits t.name && (not inner || name_checked chunk edits t.member_name)))

-- Every record from i on passes, in std's words.
pub every_record : {A : Type 0} (test : A → Bool) (at : ℕ → A) (i n : ℕ) → list_all (λ k. test (at k)) (range_with_len i n) ≡ every test (records_from at i n)
unfolding records_from every
every_record test at i zero = refl
every_record test at i (suc n) =
    ap (λ b. test (at i) && b) (every_record test at (i + 1) n ∙ ap (λ j. every test (records_from at j n)) (omega arith))

-- The records from i to n: none where i has come to n, and else the one at i and those after it.
module _ {A : Type 0} (at : ℕ → A) (i n : ℕ) where
  pub records_none : n ≤ i → records_from at i (n - i) ≡ []
  unfolding records_from
  records_none e = let none : n - i ≡ 0 = omega arith in ap (records_from at i) none

  pub records_next : i < n → records_from at i (n - i) ≡ at i ∷ records_from at (i + 1) (n - (i + 1))
  unfolding records_from
  records_next e =
      let some : n - i ≡ suc (n - (i + 1)) = omega arith in
      let next : suc i ≡ i + 1 = omega arith in
      ap (records_from at i) some ∙ ap (λ j. at i ∷ records_from at j (n - (i + 1))) next

-- The buffers from i to n, with so many variables left.
module _ (chunk edits : Bytes) (t : List ℕ) (i n left : ℕ) where
  pub buffers_none : n ≤ i → buffers_checked chunk edits t i (n - i) left ≡ eqb left 0
  unfolding buffers_checked buffers_take
  buffers_none e = ap (λ bs. buffers_take chunk edits bs left) (records_none (buffer_at t) i n e)

  pub buffers_next : i < n
      → buffers_checked chunk edits t i (n - i) left
      ≡ (name_checked chunk edits (buffer_at t i).name
      && (leb (buffer_at t i).variable_count left && buffers_checked chunk edits t (i + 1) (n - (i + 1)) (left - (buffer_at t i).variable_count)))
  unfolding buffers_checked buffers_take
  buffers_next e = ap (λ bs. buffers_take chunk edits bs left) (records_next (buffer_at t) i n e)

-- A name in the chunk.
module _ (chunk edits : Bytes) (t : Text) where
  pub name_in_chunk : t.source ≡ 0 → name_checked chunk edits t ≡ (inside (length chunk) t.place t.length && name_readable
      (part chunk t.place t.length))
  unfolding name_checked
  name_in_chunk e = (λ i. place_in_chunk chunk edits t e i && name_readable (bytes_in_chunk chunk edits t e i))

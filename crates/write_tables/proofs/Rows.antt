-- Rows written one after the other: each turn of a loop appends the bytes of one row, and a row is as long as a record.
use mathlib.Core.Path.{◌≡◌, refl, ap, sym, ◌∙◌, subst}
use mathlib.Core.Bool.{Bool, true, false}
use mathlib.Core.List.{List, ◌++◌, append-nil, append_assoc}
use Prim.Native.Nat.{ℕ, zero, suc, ◌+◌, ◌*◌, ◌/◌, ◌≤◌, ◌<◌}
use native.Mathlib.Nat.{add-zero, add-suc, suc-add}
use native.Mathlib.Numerals.{add-one}
use native.Mathlib.Omega.{arith}
use lib.ListN.{length, length-append}
use Rattle.words.specs.Splice.{Put}
use Rattle.words.proofs.Splice.{put_none, put_then}
use Rattle.reflection.specs.Strides.{buffer_stride}
use Rattle.write_spec.specs.Records.{variable_size, binding_words_in_chunk, binding_size}
use Rattle.write_texts.specs.Bytes.{joined_bytes}
use Rattle.write_texts.proofs.CellBytes.{length_joined, joined_append}
use Rattle.write_texts.specs.declared.writer.Writer.{Writer}
use Rattle.write_tables.specs.Offsets.{rows_from, variable_row, buffer_row, binding_row}
use Rattle.write_tables.specs.RecordsPut.{RecordsReady, WordsPut}
use Rattle.write_tables.proofs.Writers.{same_types, types_then}

rows_snoc : (row : ℕ → List ℕ) (i n : ℕ) → rows_from row i (suc n) ≡ rows_from row i n ++ row (i + n)
unfolding rows_from
rows_snoc row i zero = append-nil (row i) ∙ ap row (sym (add-zero i))
rows_snoc row i (suc n) =
    ap (λ (l : List ℕ). row i ++ l) (rows_snoc row (suc i) n ∙ ap (λ (k : ℕ). rows_from row (suc i) n ++ row k) (suc-add i n ∙ sym (add-suc i n)))
    ∙ sym (append_assoc (row i) (rows_from row (suc i) n) (row (i + suc n)))

-- Rows that are no longer than a record, one after the other.
short_rows : (row : ℕ → List ℕ) (size i n : ℕ) → ((j : ℕ) → length (row j) ≤ size) → length (rows_from row i n) ≤ n * size
unfolding rows_from
short_rows row size i zero short = omega arith
short_rows row size i (suc n) short =
    omega (arith, length-append (row i) (rows_from row (suc i) n), short i, short_rows row size (suc i) n short)

-- The loop's invariant: the first i of `count` rows from row `first` on were put, whose offsets stand in the scratch.
pub record RowsSoFar (row : List ℕ → ℕ → List ℕ) (first count : ℕ) (before after : Writer) (i : ℕ) : Type 0 where
  pub within : i ≤ count
  pub put : WordsPut (rows_from (row before.scratch.now) first i) before after

pub rows_none : {row : List ℕ → ℕ → List ℕ} {first count : ℕ} {w : Writer} → RowsSoFar row first count w w 0
unfolding rows_from joined_bytes
rows_none {w = w} = record { within = omega arith; put = record { put = put_none w.out.now.bytes.now w.out.now.at; scratch = refl; same = same_types w } }

module _ {row : List ℕ → ℕ → List ℕ} {first count : ℕ} {before after : Writer} {i : ℕ} (inv : RowsSoFar row first count before after i) where
  pub rows_more : {index : ℕ} {w : Writer} → i < count → index ≡ first + i → WordsPut (row after.scratch.now index) after w
      → RowsSoFar row first count before w (i + 1)
  rows_more {index} {w} more is q = record {
    within = omega arith;
    put = record {
      put =
          subst (λ bytes. Put before.out.now.bytes.now before.out.now.at bytes w.out.now.bytes.now w.out.now.at) (sym bytes)
          (put_then inv.put.put
          (subst (λ s. Put after.out.now.bytes.now after.out.now.at (joined_bytes (row s index)) w.out.now.bytes.now w.out.now.at) inv.put.scratch q.put));
      scratch = q.scratch ∙ inv.put.scratch;
      same = types_then inv.put.same q.same;
    };
  }
    where
      rows : ℕ → List ℕ
      rows = row before.scratch.now

      bytes : joined_bytes (rows_from rows first (i + 1)) ≡ joined_bytes (rows_from rows first i) ++ joined_bytes (rows index)
      bytes =
          ap (λ (k : ℕ). joined_bytes (rows_from rows first k)) (add-one i) ∙ ap joined_bytes (rows_snoc rows first i)
          ∙ joined_append (rows_from rows first i) (rows (first + i)) ∙ ap (λ (k : ℕ). joined_bytes (rows_from rows first i) ++ joined_bytes (rows k)) (sym is)

  pub rows_all : count ≤ i → WordsPut (rows_from (row before.scratch.now) first count) before after
  rows_all all =
      let e : i ≡ count = omega (arith, inv.within) in
      subst (λ n. WordsPut (rows_from (row before.scratch.now) first n) before after) e inv.put

  -- How far the cursor then is.
  rows_near : {size : ℕ} → ((j : ℕ) → length (row before.scratch.now j) ≤ size) → after.out.now.at ≤ before.out.now.at + 4 * (i * size)
  rows_near {size} short =
      omega (
        arith,
        inv.put.put.next,
        length_joined (rows_from (row before.scratch.now) first i),
        short_rows (row before.scratch.now) size first i short,
      )

  -- There is room for one more: the rows before it are short.
  pub row_ready : {next next' room size : ℕ} → RecordsReady next room 100000 before → next' ≤ next
      → ((j : ℕ) → length (row before.scratch.now j) ≤ size) → 4 * (i * size) ≤ 100000 → RecordsReady next' room 0 after
  row_ready ready fewer short few = record {
    long = omega (arith, ready.long, ap length inv.put.scratch);
    few = omega (arith, ready.few, fewer);
    near = omega (arith, ready.near, rows_near short, few);
  }

-- How long a row is at most.
pub short_variable_row : (sm5 : Bool) (variables s : List ℕ) (variable : ℕ) → length (variable_row sm5 variables s variable) ≤ variable_size true
unfolding variable_row
short_variable_row false variables s variable = omega arith
short_variable_row true variables s variable = omega arith

pub short_buffer_row : (buffers s : List ℕ) (buffer : ℕ) → length (buffer_row buffers s buffer) ≤ buffer_stride / 4
unfolding buffer_row
short_buffer_row buffers s buffer = omega arith

pub short_binding_row : (wide : Bool) (bindings s : List ℕ) (binding : ℕ) → length (binding_row wide bindings s binding) ≤ binding_size true
unfolding binding_row binding_words_in_chunk
short_binding_row false bindings s binding = omega arith
short_binding_row true bindings s binding = omega arith

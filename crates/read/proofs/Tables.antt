-- From the header and the two walks to the answer and the tables of `read_tables`. The header leaves `read_tables` to be read; the walk of the bindings
-- is its first step and the walk of the buffers its second; what the walks appended are the rows of what was read, so the counts are its numbers of records.
use Rattle.reflection.specs.Outcome.{Outcome}
use Rattle.reflection.specs.declared.refusal.Refusal.{Refusal}
use Rattle.std.specs.Prelude.{Ok, Err}
use mathlib.Core.Path.{◌≡◌, refl, sym, ap, ◌∙◌}
use mathlib.Core.Bool.{Bool, true, false}
use mathlib.Core.List.{List, []}
use Prim.Native.Nat.{ℕ, ◌*◌, ◌-◌, ◌/◌, ◌≤◌, ◌<◌}
use native.Mathlib.Nat.{mul_comm, mul-le-mul_right, div-mul-le_self, eq_of_mul-eq-mul_left}
use native.Mathlib.Omega.{arith}
use lib.ListN.{length, take}
use lib.Seq.{length-take-le}
use Rattle.words.specs.Words.{word_at}
use Rattle.reflection.specs.Limits.{binding_width, buffer_width, variable_width}
use Rattle.reflection.specs.Limits.{type_width}
use Rattle.reflection.specs.Strides.{buffer_stride}
use Rattle.reflection.specs.declared.Text.{Text}
use Rattle.reflection.specs.declared.ResourceDef.{ResourceDef as Header}
use Rattle.reflection.specs.Reflection.{Rd11, ResourceBinding, CBufferDef, ResourceDef, is_sm5, is_wide, identifier_of, stride_of, slots_of}
use Rattle.tables.specs.Records.{binding_words_in_table, buffer_words_in_table, variable_words_in_table, type_words_in_table}
use Rattle.tables.specs.Tables.{binding_record, buffer_record, variable_record, type_record, all_nodes}
use Rattle.reflection.specs.Reflection.{all_variables}
use Rattle.tables.specs.Tables.{binding_rows, buffer_rows, variable_rows, type_rows, header_of}
use Rattle.read_spec.specs.Step.{Room, room, room_of, ReadStep, and_then, ◌>>=◌, return, Walk}
use Rattle.read_spec.specs.Read.{read_many, read_binding, read_buffer, binding_stride, read_tables, read_chunk, without_room, read}
use Rattle.words.specs.Words.{word_if}
use Rattle.read_spec.proofs.Steps.{bind_is}
use Rattle.read_spec.specs.declared.Counts.{Counts}
use Rattle.read_types.specs.Progress.{Progress, progress, append_all}
use Rattle.read_types.specs.Walked.{room_left, answered, AllGrew, Walked}
use Rattle.read_tables.specs.Bindings.{append_binding, bindings_progress, bindings_in, up_to_bindings}
use Rattle.read_tables.specs.Buffers.{TableWords, append_buffer, buffers_progress, buffers_in, up_to_buffers}
use Rattle.read.specs.declared.ChunkHeader.{ChunkHeader}
use Rattle.read.specs.Parsed.{parsed_of, read_into}
use Rattle.read.specs.Header.{rd11_from_chunk, Headed}
use Rattle.read.specs.Filled.{IsRoom, rows_of, Filled}
use Rattle.read.proofs.Rows.{rows_length, binding_width_lem, buffer_width_lem, variable_width_lem}
use Rattle.read.proofs.Rows.{type_width_lem, bindings_append_rows, buffers_append_rows}
use Rattle.read.proofs.Progress.{WasRead, stopped_refused, reached_read}

-- What the RD11 words of a version say.
module _ (s : List ℕ) where
  sm5_is : (sm5 : Bool) → is_sm5 (rd11_from_chunk s sm5) ≡ sm5
  unfolding rd11_from_chunk
  sm5_is true = refl
  sm5_is false = refl

  identifier_is : (sm5 : Bool) → word_if sm5 s 28 ≡ identifier_of (rd11_from_chunk s sm5)
  unfolding rd11_from_chunk word_if
  identifier_is true = refl
  identifier_is false = refl

  stride_is : (sm5 : Bool) → word_if sm5 s 40 ≡ stride_of (rd11_from_chunk s sm5)
  unfolding rd11_from_chunk word_if
  stride_is true = refl
  stride_is false = refl

  slots_are : (sm5 : Bool) → word_if sm5 s 56 ≡ slots_of (rd11_from_chunk s sm5)
  unfolding rd11_from_chunk word_if
  slots_are true = refl
  slots_are false = refl

-- Where the first n records of a table are the rows of so many records, n is their number; over the width.
counted : (width : ℕ) (t : List ℕ) {n records : ℕ} {rows : List ℕ} → 0 < width → n ≤ length t / width → rows ≡ take (n * width) t
    → length rows ≡ records * width → n ≡ records
counted width t {n} {records} {rows} positive fits e l =
    eq_of_mul-eq-mul_left width positive n records
    (mul_comm width n
    ∙ sym (length-take-le (n * width) t (omega (arith, mul-le-mul_right width fits, div-mul-le_self (length t) width)))
    ∙ ap length (sym e)
    ∙ l
    ∙ mul_comm records width)

-- Tables that have no record yet.
abbrev pub no_records : Counts
no_records = record { bindings = 0; buffers = 0; variables = 0; types = 0 }

-- What the walk of the bindings, and then that of the buffers leaves, by their answers.
abbrev pub BindingsWalked : List ℕ → Bool → ℕ → ℕ → Counts → List ℕ → List ℕ → Walk → Type 0
BindingsWalked s wide count first capacity b b₁ r =
    Walked (bindings_progress s wide count first) capacity (up_to_bindings capacity no_records) no_records (bindings_in b) (bindings_in b₁) r

abbrev pub BuffersWalked : List ℕ → Bool → ℕ → ℕ → Counts → Counts → List ℕ → List ℕ → List ℕ → List ℕ → List ℕ → List ℕ → Walk → Type 0
BuffersWalked s sm5 count first capacity m f v t f₁ v₁ t₁ r =
    Walked (buffers_progress s sm5 count first) capacity (up_to_buffers capacity m) m (buffers_in f v t) (buffers_in f₁ v₁ t₁) r

-- The numbers of records that both walks came to are within the capacity.
pub counts_within : {S T : Type 0} {out : S → Room → Progress S} {fout : T → Room → Progress T} {capacity m k : Counts}
    {before after : Counts → S} {fbefore fafter : Counts → T}
    → Walked out capacity (up_to_bindings capacity no_records) no_records before after (Ok m)
    → Walked fout capacity (up_to_buffers capacity m) m fbefore fafter (Ok k) → AllGrew capacity no_records k
counts_within walked fwalked =
    let first-grew = walked.grew in
    let grew = fwalked.grew in
    record {
      bindings = record { low = omega arith; high = omega (arith, grew.bindings.high, first-grew.bindings.high) };
      buffers = record { low = omega arith; high = grew.buffers.high };
      variables = record { low = omega arith; high = grew.variables.high };
      types = record { low = omega arith; high = grew.types.high };
    }

-- A refusal is the answer, and says nothing of the tables.
pub refused_filled : {out : Outcome (ResourceDef Text Text)} (b f v t : List ℕ) (e : Refusal) → out ≡ Err e → Filled out b f v t (Err e)
unfolding parsed_of
refused_filled b f v t e h = record { answer = sym (ap parsed_of h); rows = tt }

pub header_refused : (s : List ℕ) {b f v t : List ℕ} (e : Refusal) → Headed s (Err e) → Filled (read_into s b f v t) b f v t (Err e)
unfolding read_into read
header_refused s {b} {f} {v} {t} e headed = refused_filled b f v t e (ap without_room (headed _))

all_left : {n k : ℕ} → n ≡ k → k ≡ n - 0
all_left e = omega (arith, e)

module _ (s : List ℕ) {b f v t : List ℕ} {capacity : Counts} (is-room : IsRoom b f v t capacity)
    (h : ChunkHeader) (valid : Headed s (Ok h)) where
  abbrev creator : Text
  creator = h.creator

  abbrev sm5 : Bool
  sm5 = h.sm5

  abbrev wide : Bool
  wide = h.wide

  abbrev out : Outcome (ResourceDef Text Text)
  out = read_into s b f v t

  abbrev rd11 : Rd11
  rd11 = rd11_from_chunk s sm5

  abbrev start : Room
  start = room_left capacity no_records

  abbrev read_bindings : ReadStep (List (ResourceBinding Text))
  read_bindings = read_many (read_binding s (is_wide rd11)) (binding_stride (is_wide rd11)) (word_at s 8) (word_at s 12)

  abbrev read_buffers : ReadStep (List (CBufferDef Text Text))
  read_buffers = read_many (read_buffer s (is_sm5 rd11)) buffer_stride (word_at s 0) (word_at s 4)

  abbrev whole : List (ResourceBinding Text) → List (CBufferDef Text Text) → ResourceDef Text Text
  whole bs fs = record { target_version = word_at s 16; compile_flags = word_at s 20; rd11 = rd11; creator = creator; bindings = bs; constant_buffers = fs }

  abbrev with_buffers : List (ResourceBinding Text) → ReadStep (ResourceDef Text Text)
  with_buffers bs = read_buffers >>= λ fs. return (whole bs fs)

  out_from_bindings : out ≡ without_room (and_then (read_bindings start) with_buffers)
  unfolding read_into read room_of read_tables
  out_from_bindings =
      (λ i. without_room (read_chunk s
      (room (all_left is-room.bindings i) (all_left is-room.buffers i) (all_left is-room.variables i) (all_left is-room.types i))))
      ∙ ap without_room (valid.1.1 start)
      ∙ ap without_room (bind_is _ _ start)

  -- The bindings were walked.
  module _ {count first : ℕ} (count-is : count ≡ word_at s 8) (first-is : first ≡ word_at s 12) (b₁ : List ℕ) where
    bindings_outcome : {answer : Walk} → BindingsWalked s wide count first capacity b b₁ answer
        → progress (append_all append_binding) (read_bindings start) [] ≡ answered capacity (bindings_in b₁) answer
    bindings_outcome walked = (λ i. bindings_progress s (sym valid.1.0 i) (sym count-is i) (sym first-is i) [] start) ∙ walked.outcome

    pub bindings_refused : {b₂ f₂ v₂ t₂ : List ℕ} (e : Refusal) → BindingsWalked s wide count first capacity b b₁ (Err e) → Filled out b₂ f₂ v₂ t₂ (Err e)
    bindings_refused {b₂} {f₂} {v₂} {t₂} e walked =
        refused_filled b₂ f₂ v₂ t₂ e
        (out_from_bindings
        ∙ ap (λ (x : Outcome (List (ResourceBinding Text) × Room)). without_room (and_then x with_buffers))
        (stopped_refused (append_all append_binding) [] (read_bindings start) e (bindings_outcome walked)))

    module _ {m : Counts} (walked : BindingsWalked s wide count first capacity b b₁ (Ok m)) where
      abbrev left : Room
      left = room_left capacity m

      bindings_read : WasRead (append_all append_binding) (read_bindings start) [] (bindings_in b₁ m) left
      bindings_read =
          reached_read (append_all append_binding) [] (read_bindings start) (bindings_in b₁ m) left (bindings_outcome walked)

      out_from_buffers : out ≡ without_room (and_then (read_buffers left) (λ fs. return (whole bindings_read.value fs)))
      out_from_buffers =
          out_from_bindings
          ∙ ap (λ (x : Outcome (List (ResourceBinding Text) × Room)). without_room (and_then x with_buffers)) bindings_read.is
          ∙ ap without_room (bind_is _ _ left)

      -- the other tables have no record yet
      others_empty : ◌≡◌ {A = TableWords} ([], ([], [])) (buffers_in f v t m)
      others_empty =
          let grew = walked.grew in
          let no_buffer : 0 ≡ m.buffers = omega (arith, grew.buffers.high) in
          let no_variable : 0 ≡ m.variables = omega (arith, grew.variables.high) in
          let no-type : 0 ≡ m.types = omega (arith, grew.types.high) in
          λ i. (take (no_buffer i * buffer_width) f, (take (no_variable i * variable_width) v, take (no-type i * type_width) t))

      -- The buffers were walked.
      module _ {fcount ffirst : ℕ} (fcount-is : fcount ≡ word_at s 0) (ffirst-is : ffirst ≡ word_at s 4) (f₁ v₁ t₁ : List ℕ) where
        buffers_outcome : {fanswer : Walk} → BuffersWalked s sm5 fcount ffirst capacity m f v t f₁ v₁ t₁ fanswer
            → progress (append_all append_buffer) (read_buffers left) ([], ([], [])) ≡ answered capacity (buffers_in f₁ v₁ t₁) fanswer
        buffers_outcome fwalked = (λ i. buffers_progress s (sm5_is s sm5 i) (sym fcount-is i) (sym ffirst-is i) (others_empty i) left) ∙ fwalked.outcome

        pub buffers_refused : {b₂ f₂ v₂ t₂ : List ℕ} (e : Refusal) → BuffersWalked s sm5 fcount ffirst capacity m f v t f₁ v₁ t₁ (Err e)
            → Filled out b₂ f₂ v₂ t₂ (Err e)
        buffers_refused {b₂} {f₂} {v₂} {t₂} e fwalked =
            refused_filled b₂ f₂ v₂ t₂ e
            (out_from_buffers
            ∙ ap (λ (x : Outcome (List (CBufferDef Text Text) × Room)). without_room (and_then x (λ fs. return (whole bindings_read.value fs))))
            (stopped_refused (append_all append_buffer) ([], ([], [])) (read_buffers left) e (buffers_outcome fwalked)))

        module _ {k : Counts} (fwalked : BuffersWalked s sm5 fcount ffirst capacity m f v t f₁ v₁ t₁ (Ok k)) where
          -- the buffers' walk left the bindings as they were, and each table is within its capacity
          all_counted : AllGrew capacity no_records k
          all_counted = counts_within walked fwalked

          abbrev words : TableWords
          words = buffers_in f₁ v₁ t₁ k

          buffers_read : WasRead (append_all append_buffer) (read_buffers left) ([], ([], [])) words (room_left capacity k)
          buffers_read =
              reached_read (append_all append_buffer) ([], ([], [])) (read_buffers left) words (room_left capacity k)
              (buffers_outcome fwalked)

          abbrev def : ResourceDef Text Text
          def = whole bindings_read.value buffers_read.value

          out_read : out ≡ Ok def
          unfolding return
          out_read =
              out_from_buffers
              ∙ ap (λ (o : Outcome (List (CBufferDef Text Text) × Room)). without_room (and_then o (λ fs. return (whole bindings_read.value fs))))
              buffers_read.is

          binding_words : binding_rows def ≡ bindings_in b₁ k
          unfolding binding_rows
          binding_words =
              let grew = fwalked.grew in
              let same : m.bindings ≡ k.bindings = omega (arith, grew.bindings.low, grew.bindings.high) in
              sym (bindings_append_rows def.bindings []) ∙ bindings_read.words ∙ ap (λ (x : ℕ). take (x * binding_width) b₁) same

          other_words : ◌≡◌ {A = TableWords} (buffer_rows def, (variable_rows def, type_rows def)) words
          unfolding buffer_rows variable_rows type_rows
          other_words = sym (buffers_append_rows def.constant_buffers ([], ([], []))) ∙ buffers_read.words

          -- The header of what was read, where its tables are as long as before.
          module _ (b-kept : length b₁ ≡ length b) (f-kept : length f₁ ≡ length f) (v-kept : length v₁ ≡ length v) (t-kept : length t₁ ≡ length t)
              {version flags identifier stride slots : ℕ} (version-is : version ≡ word_at s 16) (flags-is : flags ≡ word_at s 20)
              (id-is : identifier ≡ word_if sm5 s 28) (str-is : stride ≡ word_if sm5 s 40) (slot_is : slots ≡ word_if sm5 s 56) where
            abbrev header : Header
            header = record {
              target_version = version;
              compile_flags = flags;
              creator = creator;
              rd11 = record { identifier = identifier; resource_binding_stride = stride; interface_slot_count = slots };
              binding_count = k.bindings;
              buffer_count = k.buffers;
              variable_count = k.variables;
              type_count = k.types;
            }

            header_is : header ≡ header_of def
            unfolding header_of binding_rows buffer_rows variable_rows type_rows
            header_is =
                let fs = def.constant_buffers in
                let grew = all_counted in
                let bs-count : k.bindings ≡ length def.bindings =
                counted binding_width b₁ (omega arith) (omega (arith, grew.bindings.high, is-room.bindings, b-kept)) binding_words
                (rows_length binding_words_in_table binding_record binding_width binding_width_lem def.bindings) in
                let fs-count : k.buffers ≡ length fs =
                counted buffer_width f₁ (omega arith) (omega (arith, grew.buffers.high, is-room.buffers, f-kept)) (λ i. (other_words i).0)
                (rows_length buffer_words_in_table buffer_record buffer_width buffer_width_lem fs) in
                let vs-count : k.variables ≡ length (all_variables fs) =
                counted variable_width v₁ (omega arith) (omega (arith, grew.variables.high, is-room.variables, v-kept)) (λ i. (other_words i).1.0)
                (rows_length variable_words_in_table variable_record variable_width variable_width_lem (all_variables fs)) in
                let ts-count : k.types ≡ length (all_nodes (all_variables fs)) =
                counted type_width t₁ (omega arith) (omega (arith, grew.types.high, is-room.types, t-kept)) (λ i. (other_words i).1.1)
                (rows_length type_words_in_table type_record type_width type_width_lem (all_nodes (all_variables fs))) in
                λ i. record {
                  target_version = version-is i;
                  compile_flags = flags-is i;
                  creator = creator;
                  rd11 = record {
                    identifier = (id-is ∙ identifier_is s sm5) i;
                    resource_binding_stride = (str-is ∙ stride_is s sm5) i;
                    interface_slot_count = (slot_is ∙ slots_are s sm5) i;
                  };
                  binding_count = bs-count i;
                  buffer_count = fs-count i;
                  variable_count = vs-count i;
                  type_count = ts-count i;
                }

            rows_are : (rows : ResourceDef Text Text → List ℕ) (l : List ℕ) (n : ℕ) → rows def ≡ take n l → take n l ≡ rows_of rows out l
            rows_are rows l n e = sym e ∙ sym (ap (λ (o : Outcome (ResourceDef Text Text)). rows_of rows o l) out_read)

            pub tables_filled : Filled out b₁ f₁ v₁ t₁ (Ok header)
            unfolding parsed_of
            tables_filled = record {
              answer = ap Ok header_is ∙ sym (ap parsed_of out_read);
              rows = (
                rows_are binding_rows b₁ (k.bindings * binding_width) binding_words,
                (
                  rows_are buffer_rows f₁ (k.buffers * buffer_width) (λ i. (other_words i).0),
                  (
                    rows_are variable_rows v₁ (k.variables * variable_width) (λ i. (other_words i).1.0),
                    rows_are type_rows t₁ (k.types * type_width) (λ i. (other_words i).1.1),
                  ),
                ),
              );
            }

-- Tables of words hold reflections whose numbers are words: every number of what they decode to is a word of a record, and the contents have the same numbers.
use Rattle.std.specs.Prelude.{Option, Some}
use mathlib.Core.Path.{◌≡◌, refl, sym, ap, subst}
use mathlib.Core.Bool.{Bool, true, false, ◌&&◌}
use mathlib.Core.List.{List, [], ◌∷◌, ◌++◌, map}
use Prim.Native.Nat.{ℕ, zero, suc, ◌+◌, ◌*◌, ◌/◌, ◌<◌}
use native.Mathlib.Omega.{arith}
use lib.Dec.{leb, eqb}
use lib.ListN.{length, get_or, take, drop}
use Rattle.reflection.specs.Limits.{chunk_limit}
use Rattle.reflection.specs.declared.Text.{Text}
use Rattle.reflection.specs.declared.ResourceDef.{ResourceDef as Header}
use Rattle.reflection.specs.declared.ResourceBinding.{ResourceBinding as BindingRecord}
use Rattle.reflection.specs.declared.CBufferDef.{CBufferDef as BufferRecord}
use Rattle.reflection.specs.declared.CBufferVariable.{CBufferVariable as VariableRecord}
use Rattle.reflection.specs.declared.TypeDesc.{TypeDesc as TypeRecord}
use Rattle.reflection.specs.Reflection.{TypeDesc, type_desc, Members, no_member, member, map_type, map_members, CBufferVariable, map_variable}
use Rattle.reflection.specs.Reflection.{CBufferDef}
use Rattle.reflection.specs.Reflection.{map_buffer, ResourceBinding, map_binding, ResourceDef, map_def, major_of, identifier_of, stride_of, slots_of}
use Rattle.reflection.specs.Reflection.{no_rd11, rd11}
use Rattle.tables.specs.Nodes.{Node, Built, members_from_nodes, type_from_nodes, type_levels}
use Rattle.tables.specs.Records.{binding_width, buffer_width, variable_width, type_width, type_at, variable_at, buffer_at, binding_at, record_word}
use Rattle.tables.specs.Records.{holds_record}
use Rattle.tables.specs.Decode.{records_from, first_records, node_from_table, variables_from}
use Rattle.tables.specs.Decode.{buffers_from, buffer_from_table, binding_from_table, variable_from_table, decode}
use Rattle.reflection.specs.Rd11.{rd11_from_header}
use Rattle.reflection.specs.Texts.{text_bytes}
use Rattle.reflection.specs.Contents.{Bytes, contents}
use Rattle.readable.specs.Readable.{table_contents, rd11_absent, texts_in_place}
use Rattle.tables.proofs.Options.{some_was, then_was, check_was}
use Rattle.theorem_round_trip.specs.RoundTrip.{type_numbers, member_numbers, variable_numbers, binding_numbers}
use Rattle.theorem_round_trip.specs.RoundTrip.{buffer_numbers, EachIsWord, AllWords, BuffersWords, NumbersAreWords}
use Rattle.theorem_round_trip.proofs.Lists.{All}

-- Every element is below 2^32.
abbrev pub WordTable : List ℕ → Type 0
WordTable t = (j : ℕ) → get_or t j 0 < 4294967296

record_word_lem : (width : ℕ) (t : List ℕ) → WordTable t → (i k : ℕ) → record_word width t i k < 4294967296
unfolding record_word
record_word_lem width t words i k = go (holds_record width (length t) i)
  where
    go : (inside : Bool) → elim inside [ true ↦ get_or t (i * width + k) 0 | false ↦ 0 ] < 4294967296
    go true = words (i * width + k)
    go false = omega arith

all_records : {A : Type 0} (P : A → Type 0) (record-at : ℕ → A) → ((i : ℕ) → P (record-at i)) → (i n : ℕ) → All P (records_from record-at i n)
unfolding records_from
all_records P record-at each i zero = tt
all_records P record-at each i (suc n) = (each i, all_records P record-at each (suc i) n)

-- What a record of a table of words has as numbers.
abbrev NodeWords : Node Text → Type 0
NodeWords x =
    (x.numbers.extra0 < 4294967296) × ((x.numbers.extra1 < 4294967296)
    × ((x.numbers.extra2 < 4294967296) × ((x.numbers.extra3 < 4294967296) × (x.member_offset < 4294967296))))

pub words_append : (xs ys : List ℕ) → EachIsWord xs → EachIsWord ys → EachIsWord (xs ++ ys)
unfolding EachIsWord
words_append [] ys p q = q
words_append (x ∷ xs) ys p q = (p.0, words_append xs ys p.1 q)

-- Nodes whose numbers are words build types whose numbers are.
record BuiltWords (b : Built Text) : Type 0 where
  type_words : EachIsWord (type_numbers b.type)
  offset_word : b.member_offset < 4294967296
  left_words : All NodeWords b.left

members_words : (build : List (Node Text) → Option (Built Text)) → ((xs : List (Node Text)) (b : Built Text) → All NodeWords xs → build xs ≡ Some b
    → BuiltWords b)
    → (n : ℕ) (xs : List (Node Text)) (r : Members Text × List (Node Text)) → All NodeWords xs → members_from_nodes build n xs ≡ Some r
    → EachIsWord (member_numbers r.0) × All NodeWords r.1
unfolding members_from_nodes member_numbers EachIsWord
members_words build one zero xs r all e =
    subst (λ (q : Members Text × List (Node Text)). EachIsWord (member_numbers q.0) × All NodeWords q.1) (some_was e) (tt, all)
members_words build one (suc n) xs r all e =
    let (t, built, e₁) = then_was (build xs) _ r e in
    let (ms, others, e₂) = then_was (members_from_nodes build n t.left) _ r e₁ in
    let first = one xs t all built in
    let (rest, left) = members_words build one n t.left ms first.left_words others in
    subst (λ (q : Members Text × List (Node Text)). EachIsWord (member_numbers q.0) × All NodeWords q.1) (some_was e₂)
    ((first.offset_word, words_append (type_numbers t.type) (member_numbers ms.0) first.type_words rest), left)

type_words : (levels : ℕ) (xs : List (Node Text)) (b : Built Text) → All NodeWords xs → type_from_nodes levels xs ≡ Some b → BuiltWords b
unfolding type_from_nodes type_numbers EachIsWord
type_words zero xs b all e = absurd (let apart : ◌≡◌ {A = ℕ} 0 1 = cc in omega arith)
type_words (suc levels) [] b all e = absurd (let apart : ◌≡◌ {A = ℕ} 0 1 = cc in omega arith)
type_words (suc levels) (x ∷ xs) b all e =
    let (ms, built, e₁) = then_was (members_from_nodes (type_from_nodes levels) x.member_count xs) _ b e in
    let (members, left) = members_words (type_from_nodes levels) (type_words levels) x.member_count xs ms all.1 built in
    let own = all.0 in
    subst BuiltWords (some_was e₁)
    (record { type_words = (own.0, (own.1.0, (own.1.1.0, (own.1.1.1.0, members)))); offset_word = own.1.1.1.1; left_words = left })

-- So do variables and buffers.
abbrev VariableWords : VariableRecord → Type 0
VariableWords v = EachIsWord (v.offset ∷ v.size ∷ v.flags.0 ∷ v.texture_start ∷ v.texture_size ∷ v.sampler_start ∷ v.sampler_size ∷ [])

variables_words : (vs : List VariableRecord) (ns : List (Node Text)) (typed : List (CBufferVariable Text Text)) → All VariableWords vs → All NodeWords ns
    → variables_from vs ns ≡ Some typed → AllWords variable_numbers typed
unfolding variables_from variable_from_table variable_numbers EachIsWord AllWords
variables_words [] [] typed all nodes e = subst (AllWords variable_numbers) (some_was e) tt
variables_words [] (n ∷ ns) typed all nodes e = absurd (let apart : ◌≡◌ {A = ℕ} 0 1 = cc in omega arith)
variables_words (v ∷ vs) ns typed all nodes e =
    let (t, built, e₁) = then_was (type_from_nodes type_levels ns) _ typed e in
    let (others, after, e₂) = then_was (variables_from vs t.left) _ typed e₁ in
    let one = type_words type_levels ns t nodes built in
    let own = all.0 in
    subst (AllWords variable_numbers) (some_was e₂) (
      (own.0, (own.1.0, (own.1.1.0, (own.1.1.1.0, (own.1.1.1.1.0, (own.1.1.1.1.1.0, (own.1.1.1.1.1.1.0, one.type_words))))))),
      variables_words vs t.left others all.1 one.left_words after,
    )

words_take : (n : ℕ) (vs : List (CBufferVariable Text Text)) → AllWords variable_numbers vs → AllWords variable_numbers (take n vs)
unfolding AllWords
words_take zero vs all = tt
words_take (suc n) [] all = tt
words_take (suc n) (v ∷ vs) all = (all.0, words_take n vs all.1)

words_drop : (n : ℕ) (vs : List (CBufferVariable Text Text)) → AllWords variable_numbers vs → AllWords variable_numbers (drop n vs)
unfolding AllWords
words_drop zero vs all = all
words_drop (suc n) [] all = tt
words_drop (suc n) (v ∷ vs) all = words_drop n vs all.1

buffers_words : (bs : List BufferRecord) (vs : List (CBufferVariable Text Text)) (filled : List (CBufferDef Text Text))
    → All (λ b. EachIsWord (b.size ∷ b.flags ∷ b.cb_type ∷ [])) bs → AllWords variable_numbers vs → buffers_from bs vs ≡ Some filled → BuffersWords filled
unfolding buffers_from buffer_from_table buffer_numbers BuffersWords
buffers_words [] [] filled all own e = subst BuffersWords (some_was e) tt
buffers_words [] (v ∷ vs) filled all own e = absurd (let apart : ◌≡◌ {A = ℕ} 0 1 = cc in omega arith)
buffers_words (b ∷ bs) vs filled all own e =
    let (long, e₁) = check_was (leb b.variable_count (length vs)) _ filled e in
    let (others, after, e₂) = then_was (buffers_from bs (drop b.variable_count vs)) _ filled e₁ in
    subst BuffersWords (some_was e₂) (
      all.0,
      (
        words_take b.variable_count vs own,
        buffers_words bs (drop b.variable_count vs) others all.1
            (words_drop b.variable_count vs own) after,
      ),
    )

bindings_words : (bs : List BindingRecord)
    → All (λ b. EachIsWord (b.input_type ∷ b.return_type ∷ b.dimension ∷ b.num_samples ∷ b.bind_point ∷ b.bind_count ∷ b.flags.0 ∷ b.space
    ∷ b.id ∷ [])) bs
    → AllWords binding_numbers (map binding_from_table bs)
unfolding AllWords binding_from_table binding_numbers
bindings_words [] all = tt
bindings_words (b ∷ bs) all = (all.0, bindings_words bs all.1)

nodes_words : (ts : List TypeRecord) → All (λ t. NodeWords (node_from_table t)) ts → All NodeWords (map node_from_table ts)
nodes_words [] all = tt
nodes_words (t ∷ ts) all = (all.0, nodes_words ts all.1)

-- The header's own words.
abbrev pub HeaderWords : Header → Type 0
HeaderWords h = EachIsWord (h.target_version ∷ h.compile_flags ∷ h.rd11.identifier ∷ h.rd11.resource_binding_stride
    ∷ h.rd11.interface_slot_count ∷ [])

first_records_lem : {A : Type 0} (P : A → Type 0) (width : ℕ) (record-at : List ℕ → ℕ → A) (t : List ℕ) (n : ℕ) (xs : List A) → ((i : ℕ) → P (record-at t i))
    → first_records width record-at t n ≡ Some xs → All P xs
unfolding first_records
first_records_lem P width record-at t n xs each e =
    let (inside, e₁) = check_was (leb n (length t / width)) _ xs e in
    subst (All P) (some_was e₁) (all_records P (record-at t) each 0 n)

rd11_words_lem : (h : Header) → HeaderWords h
    → EachIsWord (h.target_version ∷ h.compile_flags ∷ identifier_of (rd11_from_header h) ∷ stride_of (rd11_from_header h) ∷ slots_of (rd11_from_header h) ∷ [])
unfolding rd11_from_header EachIsWord
rd11_words_lem h w = go (eqb (major_of h.target_version) 5)
  where
    go : (five : Bool)
        → EachIsWord (h.target_version ∷ h.compile_flags
        ∷ identifier_of (elim five [ true ↦ rd11 h.rd11.identifier h.rd11.resource_binding_stride h.rd11.interface_slot_count | false ↦ no_rd11 ])
        ∷ stride_of (elim five [ true ↦ rd11 h.rd11.identifier h.rd11.resource_binding_stride h.rd11.interface_slot_count | false ↦ no_rd11 ])
        ∷ slots_of (elim five [ true ↦ rd11 h.rd11.identifier h.rd11.resource_binding_stride h.rd11.interface_slot_count | false ↦ no_rd11 ])
        ∷ [])
    go true = w
    go false = (w.0, (w.1.0, (omega arith, (omega arith, (omega arith, tt)))))

-- What tables of words decode to.
pub decode_words : (h : Header) (bindings buffers variables types : List ℕ) → HeaderWords h → WordTable bindings → WordTable buffers → WordTable variables
    → WordTable types
    → (r : ResourceDef Text Text) → decode h bindings buffers variables types ≡ Some r → NumbersAreWords r
unfolding decode binding_at buffer_at variable_at type_at node_from_table EachIsWord
decode_words h bindings buffers variables types header b f v t r e =
    let (bs, some-bs, e₁) = then_was (first_records binding_width binding_at bindings h.binding_count) _ r e in
    let (cs, some-cs, e₂) = then_was (first_records buffer_width buffer_at buffers h.buffer_count) _ r e₁ in
    let (vs, some-vs, e₃) = then_was (first_records variable_width variable_at variables h.variable_count) _ r e₂ in
    let (ts, some-ts, e₄) = then_was (first_records type_width type_at types h.type_count) _ r e₃ in
    let (typed, with-types, e₅) = then_was (variables_from vs (map node_from_table ts)) _ r e₄ in
    let (filled, in_buffers, e₆) = then_was (buffers_from cs typed) _ r e₅ in
    let binding : (i k : ℕ) → record_word binding_width bindings i k < 4294967296 = record_word_lem binding_width bindings b in
    let buffer : (i k : ℕ) → record_word buffer_width buffers i k < 4294967296 = record_word_lem buffer_width buffers f in
    let variable : (i k : ℕ) → record_word variable_width variables i k < 4294967296 = record_word_lem variable_width variables v in
    let node : (i k : ℕ) → record_word type_width types i k < 4294967296 = record_word_lem type_width types t in
    let all-vs = first_records_lem VariableWords variable_width variable_at variables h.variable_count vs
    (λ i. (variable i 3, (variable i 4, (variable i 5, (variable i 9, (variable i 10, (variable i 11, (variable i 12, tt)))))))) some-vs in
    let all-ts = first_records_lem (λ (x : TypeRecord). NodeWords (node_from_table x)) type_width type_at types h.type_count ts
    (λ i. (node i 6, (node i 7, (node i 8, (node i 9, node i 16))))) some-ts in
    let all-cs = first_records_lem (λ (x : BufferRecord). EachIsWord (x.size ∷ x.flags ∷ x.cb_type ∷ [])) buffer_width buffer_at buffers h.buffer_count cs
    (λ i. (buffer i 4, (buffer i 5, (buffer i 6, tt)))) some-cs in
    let all-bs = first_records_lem
    (λ (x : BindingRecord). EachIsWord (x.input_type ∷ x.return_type ∷ x.dimension ∷ x.num_samples ∷ x.bind_point ∷ x.bind_count ∷ x.flags.0
    ∷ x.space ∷ x.id ∷ []))
    binding_width binding_at bindings h.binding_count bs
    (λ i. (binding i 3, (binding i 4, (binding i 5, (binding i 6, (binding i 7, (binding i 8, (binding i 9, (binding i 10, (binding i 11, tt))))))))))
    some-bs in
    subst NumbersAreWords (some_was e₆)
    (record {
      header = rd11_words_lem h header;
      bindings = bindings_words bs all-bs;
      buffers = buffers_words cs typed filled all-cs (variables_words vs (map node_from_table ts) typed all-vs (nodes_words ts all-ts) with-types) in_buffers;
    })

-- Names and defaults of another kind leave the numbers as they are.
module _ {N M D E : Type 0} (f : N → M) (g : D → E) where
  mutual
    unfolding map_type type_numbers

    same_type_numbers : (t : TypeDesc N) → type_numbers (map_type f t) ≡ type_numbers t
    same_type_numbers (type_desc k n ms) = ap (λ (ns : List ℕ). k.extra0 ∷ k.extra1 ∷ k.extra2 ∷ k.extra3 ∷ ns) (same_member_numbers ms)

    same_member_numbers : (ms : Members N) → member_numbers (map_members f ms) ≡ member_numbers ms
    same_member_numbers no_member = refl
    same_member_numbers (member n offset t ms) = λ i. offset ∷ (same_type_numbers t i ++ same_member_numbers ms i)

  same_variables : (vs : List (CBufferVariable N D)) → AllWords variable_numbers vs → AllWords variable_numbers (map (map_variable f g) vs)
  unfolding AllWords variable_numbers map_variable
  same_variables [] all = tt
  same_variables (v ∷ vs) all = (
    subst (λ (ns : List ℕ). EachIsWord (v.offset ∷ v.size ∷ v.flags ∷ v.texture_start ∷ v.texture_size ∷ v.sampler_start ∷ v.sampler_size ∷ ns))
        (sym (same_type_numbers v.var_type)) all.0,
    same_variables vs all.1,
  )

  same_buffers : (bs : List (CBufferDef N D)) → BuffersWords bs → BuffersWords (map (map_buffer f g) bs)
  unfolding BuffersWords buffer_numbers map_buffer
  same_buffers [] all = tt
  same_buffers (b ∷ bs) all = (all.0, (same_variables b.variables all.1.0, same_buffers bs all.1.1))

  same_bindings : (bs : List (ResourceBinding N)) → AllWords binding_numbers bs → AllWords binding_numbers (map (map_binding f) bs)
  unfolding AllWords binding_numbers map_binding
  same_bindings [] all = tt
  same_bindings (b ∷ bs) all = (all.0, same_bindings bs all.1)

  pub map_words : (r : ResourceDef N D) → NumbersAreWords r → NumbersAreWords (map_def f g r)
  unfolding map_def
  map_words r w = record { header = w.header; bindings = same_bindings r.bindings w.bindings; buffers = same_buffers r.constant_buffers w.buffers }

-- So what tables of words hold has words as numbers.
pub held_words : (chunk edits : Bytes) (h : Header) (bindings buffers variables types : List ℕ) → HeaderWords h → WordTable bindings → WordTable buffers
    → WordTable variables
    → WordTable types → (c : ResourceDef Bytes Bytes) → table_contents chunk edits h bindings buffers variables types ≡ Some c → NumbersAreWords c
unfolding table_contents contents
held_words chunk edits h bindings buffers variables types header b f v t c e =
    let (long, e₁) = check_was (leb (length chunk) chunk_limit && leb (length edits) chunk_limit) _ c e in
    let (absent, e₂) = check_was (rd11_absent h) _ c e₁ in
    let (r, decoded, e₃) = then_was (decode h bindings buffers variables types) _ c e₂ in
    let (placed, e₄) = check_was (texts_in_place chunk edits r) _ c e₃ in
    subst NumbersAreWords (some_was e₄)
    (map_words (text_bytes chunk edits) (text_bytes chunk edits) r (decode_words h bindings buffers variables types header b f v t r decoded))

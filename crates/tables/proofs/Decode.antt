-- Decoding undoes encoding: the tables of a reflection hold its records, the nodes build its types again, and the buffers take back their variables.
-- What a root's node says of a member does not count (the nodes may be rooted anyhow).
use Rattle.std.specs.Prelude.{Some}
use mathlib.Core.Path.{◌≡◌, refl, sym, ap, ◌∙◌}
use mathlib.Core.Bool.{Bool, true, false}
use mathlib.Core.List.{List, [], ◌∷◌, ◌++◌, map}
use Prim.Native.Nat.{ℕ, suc, ◌+◌, ◌/◌, ◌<◌}
use native.Mathlib.Nat.{zero-add, add-zero}
use native.Mathlib.Omega.{arith}
use borrow.Author.Tests.{le-leb}
use lib.Dec.{eqb}
use lib.ListN.{length, get_or, length-append, length-map}
use lib.Seq.{take-append_seam, drop-append_seam}
use Rattle.reflection.specs.declared.Text.{Text}
use Rattle.reflection.specs.declared.ResourceBinding.{ResourceBinding as BindingRecord}
use Rattle.reflection.specs.declared.CBufferDef.{CBufferDef as BufferRecord}
use Rattle.reflection.specs.declared.CBufferVariable.{CBufferVariable as VariableRecord}
use Rattle.reflection.specs.declared.TypeDesc.{TypeDesc as TypeRecord}
use Rattle.reflection.specs.Reflection.{TypeDesc, type_desc, CBufferVariable, CBufferDef, ResourceBinding, ResourceDef, Rd11, no_rd11, rd11}
use Rattle.reflection.specs.Reflection.{identifier_of, stride_of, slots_of, major_of}
use Rattle.reflection.specs.Texts.{in_chunk}
use Rattle.tables.specs.Nodes.{Node, nodes_of, type_levels}
use Rattle.tables.specs.Records.{within, record_word, joined}
use Rattle.tables.specs.Records.{binding_width, binding_words_in_table, binding_of, binding_at}
use Rattle.tables.specs.Records.{buffer_width, buffer_words_in_table, buffer_of, buffer_at}
use Rattle.tables.specs.Records.{variable_width, variable_words_in_table, variable_of, variable_at}
use Rattle.tables.specs.Records.{type_width, type_words_in_table, type_of, type_at}
use Rattle.tables.specs.Tables.{padded, binding_record, buffer_record, variable_record, type_record, all_nodes}
use Rattle.reflection.specs.Reflection.{all_variables}
use Rattle.tables.specs.Tables.{binding_rows, buffer_rows, variable_rows, type_rows, header_of}
use Rattle.tables.specs.Decode.{guard, records_from, first_records, binding_from_table, variable_from_table, buffer_from_table, node_from_table}
use Rattle.tables.specs.Decode.{variables_from, buffers_from, decode}
use Rattle.reflection.specs.Rd11.{rd11_from_header}
use Rattle.tables.proofs.Levels.{TypesFit}
use Rattle.tables.proofs.Joined.{holds_joined, words_joined}
use Rattle.tables.proofs.Nodes.{then_some, type_from}

-- Records that are the elements of a list, one by one, are the list.
records_all : {A : Type 0} (record-at : ℕ → A) (xs : List A) (d : A) (i : ℕ) → ((k : ℕ) → k < length xs → record-at (i + k) ≡ get_or xs k d)
    → records_from record-at i (length xs) ≡ xs
unfolding records_from
records_all record-at [] d i e = refl
records_all record-at (x ∷ xs) d i e =
    ap (λ y. y ∷ records_from record-at (suc i) (length xs)) (ap record-at (sym (add-zero i)) ∙ e 0 (omega arith))
    ∙ ap (λ ys. x ∷ ys)
    (records_all record-at xs d (suc i)
    (λ k h. let next : suc i + k ≡ i + suc k = omega arith in ap record-at next ∙ e (suc k) (omega arith)))

module _
    {A : Type 0}
    (width : ℕ)
    (wide : 0 < width)
    (words : A → List ℕ)
    (whole : (x : A) → length (words x) ≡ width)
    (record-at : List ℕ → ℕ → A)
    (reads : (t : List ℕ) (i : ℕ) (x : A) → within width (record_word width t i) ≡ within width (λ k. get_or (words x) k 0) → record-at t i ≡ x) where
  -- The first records of a table of joined records are these.
  first_joined : (n m : ℕ) (xs : List A) → m ≡ length xs → first_records width record-at (padded n (joined words xs)) m ≡ Some xs
  unfolding first_records guard
  first_joined n m xs e =
      then_some _ (ap guard (le-leb m (length (padded n (joined words xs)) / width) (omega (arith, holds_joined width words whole n xs wide))))
      (ap Some
      (ap (records_from (record-at (padded n (joined words xs))) 0) e
      ∙ records_all (record-at (padded n (joined words xs))) xs (record-at [] 0) 0
      (λ k h. ap (record-at (padded n (joined words xs))) (zero-add k) ∙ reads _ _ _ (words_joined width words whole n xs (record-at [] 0) k h))))

pub first_bindings : (n m : ℕ) (xs : List BindingRecord) → m ≡ length xs
    → first_records binding_width binding_at (padded n (joined binding_words_in_table xs)) m ≡ Some xs
unfolding binding_at binding_words_in_table
first_bindings = first_joined binding_width (omega arith) binding_words_in_table (λ x. refl) binding_at (λ t i x e. ap binding_of e)

pub first_buffers : (n m : ℕ) (xs : List BufferRecord) → m ≡ length xs → first_records buffer_width buffer_at (padded n (joined buffer_words_in_table xs)) m ≡ Some xs
unfolding buffer_at buffer_words_in_table
first_buffers = first_joined buffer_width (omega arith) buffer_words_in_table (λ x. refl) buffer_at (λ t i x e. ap buffer_of e)

pub first_variables : (n m : ℕ) (xs : List VariableRecord) → m ≡ length xs
    → first_records variable_width variable_at (padded n (joined variable_words_in_table xs)) m ≡ Some xs
unfolding variable_at variable_words_in_table
first_variables = first_joined variable_width (omega arith) variable_words_in_table (λ x. refl) variable_at (λ t i x e. ap variable_of e)

pub first_types : (n m : ℕ) (xs : List TypeRecord) → m ≡ length xs → first_records type_width type_at (padded n (joined type_words_in_table xs)) m ≡ Some xs
unfolding type_at type_words_in_table
first_types = first_joined type_width (omega arith) type_words_in_table (λ x. refl) type_at (λ t i x e. ap type_of e)

-- What a record was made from comes back.
map_back : {A B : Type 0} (f : A → B) (g : B → A) → ((x : A) → g (f x) ≡ x) → (xs : List A) → map g (map f xs) ≡ xs
map_back f g e [] = refl
map_back f g e (x ∷ xs) = ap (λ y. y ∷ map g (map f xs)) (e x) ∙ ap (λ ys. x ∷ ys) (map_back f g e xs)

pub bindings_back : (xs : List (ResourceBinding Text)) → map binding_from_table (map binding_record xs) ≡ xs
unfolding binding_from_table binding_record
bindings_back = map_back binding_record binding_from_table (λ x. refl)

pub nodes_back : (xs : List (Node Text)) → map node_from_table (map type_record xs) ≡ xs
unfolding node_from_table type_record
nodes_back = map_back type_record node_from_table (λ x. refl)

-- The nodes of the variables' types, whatever name and offset each root has as a member.
unfoldable pub rooted_nodes : (CBufferVariable Text Text → Text × ℕ) → List (CBufferVariable Text Text) → List (Node Text)
rooted_nodes root [] = []
rooted_nodes root (x ∷ xs) = nodes_of (root x).0 (root x).1 x.var_type ++ rooted_nodes root xs

-- The encoding's roots have none.
plain_roots : (xs : List (CBufferVariable Text Text)) → rooted_nodes (λ x. (in_chunk 0 0, 0)) xs ≡ all_nodes xs
unfolding rooted_nodes all_nodes
plain_roots [] = refl
plain_roots (x ∷ xs) = ap (λ ns. nodes_of (in_chunk 0 0) 0 x.var_type ++ ns) (plain_roots xs)

length_root : {N : Type 0} (n m : N) (a b : ℕ) (t : TypeDesc N) → length (nodes_of n a t) ≡ length (nodes_of m b t)
unfolding nodes_of
length_root n m a b (type_desc k name ms) = refl

length_rooted : (root : CBufferVariable Text Text → Text × ℕ) (xs : List (CBufferVariable Text Text)) → length (all_nodes xs) ≡ length (rooted_nodes root xs)
unfolding rooted_nodes all_nodes
length_rooted root [] = refl
length_rooted root (x ∷ xs) =
    let t = x.var_type in
    omega (
      arith,
      length-append (nodes_of (in_chunk 0 0) 0 t) (all_nodes xs),
      length-append (nodes_of (root x).0 (root x).1 t) (rooted_nodes root xs),
      length_root (in_chunk 0 0) (root x).0 0 (root x).1 t,
      length_rooted root xs,
    )

pub variables_back : (root : CBufferVariable Text Text → Text × ℕ) (vs : List (CBufferVariable Text Text)) → TypesFit vs
    → variables_from (map variable_record vs) (rooted_nodes root vs) ≡ Some vs
unfolding variables_from variable_from_table variable_record rooted_nodes TypesFit
variables_back root [] fits = refl
variables_back root (v ∷ vs) fits =
    then_some _ (type_from v.var_type type_levels (root v).0 (root v).1 (rooted_nodes root vs) fits.0)
    (then_some _ (variables_back root vs fits.1) refl)

pub buffers_back : (bs : List (CBufferDef Text Text)) → buffers_from (map buffer_record bs) (all_variables bs) ≡ Some bs
unfolding buffers_from buffer_from_table buffer_record all_variables guard
buffers_back [] = refl
buffers_back (b ∷ bs) =
    let own = b.variables in
    let others = all_variables bs in
    then_some _ (ap guard (le-leb (length own) (length (own ++ others)) (omega (arith, length-append own others))))
    (then_some _ (ap (buffers_from (map buffer_record bs)) (drop-append_seam own others) ∙ buffers_back bs)
    (ap (λ vs. Some (buffer_from_table (buffer_record b) vs ∷ bs)) (take-append_seam own others)))

-- The RD11 words that a reflection has: their own three words for major 5, none for another. Those of its header are these.
abbrev pub rd11_of : Bool → Rd11 → Rd11
rd11_of true words = rd11 (identifier_of words) (stride_of words) (slots_of words)
rd11_of false words = no_rd11

pub rd11_of_header : (d : ResourceDef Text Text) (sm5 : Bool) → eqb (major_of d.target_version) 5 ≡ sm5 → rd11_from_header (header_of d) ≡ rd11_of sm5 d.rd11
unfolding rd11_from_header header_of
rd11_of_header d true is-sm5 = rw (rd11_from_header, is-sm5)
rd11_of_header d false is-sm5 = rw (rd11_from_header, is-sm5)

module _ (r : ResourceDef Text Text) (nb nf nv nt : ℕ) (fits : TypesFit (all_variables r.constant_buffers))
    (words : r.rd11 ≡ rd11_from_header (header_of r)) where
  -- Decoding undoes encoding, whatever the roots' nodes say of a member.
  pub decode_rooted : (root : CBufferVariable Text Text → Text × ℕ)
      → decode (header_of r) (padded nb (binding_rows r)) (padded nf (buffer_rows r)) (padded nv (variable_rows r))
      (padded nt (joined type_words_in_table (map type_record (rooted_nodes root (all_variables r.constant_buffers)))))
      ≡ Some r
  unfolding decode header_of binding_rows buffer_rows variable_rows
  decode_rooted root =
      let vs = all_variables r.constant_buffers in
      let ns = rooted_nodes root vs in
      then_some _ (first_bindings nb _ (map binding_record r.bindings) (sym (length-map r.bindings binding_record)))
      (then_some _ (first_buffers nf _ (map buffer_record r.constant_buffers) (sym (length-map r.constant_buffers buffer_record)))
      (then_some _ (first_variables nv _ (map variable_record vs) (sym (length-map vs variable_record)))
      (then_some _ (first_types nt _ (map type_record ns) (length_rooted root vs ∙ sym (length-map ns type_record)))
      (then_some _ (ap (variables_from (map variable_record vs)) (nodes_back ns) ∙ variables_back root vs fits)
      (then_some _ (buffers_back r.constant_buffers) (rw (bindings_back r.bindings, ← words)))))))

  pub decode_encoded : decode (header_of r) (padded nb (binding_rows r)) (padded nf (buffer_rows r)) (padded nv (variable_rows r)) (padded nt (type_rows r)) ≡ Some r
  unfolding type_rows
  decode_encoded = rw (← plain_roots) (decode_rooted (λ x. (in_chunk 0 0, 0)))

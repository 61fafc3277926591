-- What `readable_contents` and `NumbersAreWords` say of each record, in the form that the proofs of reading use: each is a part of the two, found by taking
-- the tests and the lists of names and numbers apart.
use mathlib.Core.Path.{◌≡◌, refl, ap, sym, ◌∙◌, subst}
use mathlib.Core.List.{List, [], ◌∷◌, ◌++◌, map, append_assoc}
use mathlib.Core.Bool.{Bool, true, false, ◌&&◌}
use Prim.Native.Nat.{ℕ, zero, suc, ◌<◌, ◌≤◌}
use native.Mathlib.Omega.{arith}
use borrow.Author.Tests.{leb-true, eqb-true}
use lib.Dec.{leb, eqb}
use lib.ListN.{length, length-append}
use Rattle.text.proofs.Bools.{and-true}
use Rattle.codes.specs.Table.{known}
use Rattle.codes.specs.Microsoft.{input_types, srv_dimensions}
use Rattle.flags.specs.Flags.{binding_flags_allowed}
use Rattle.reflection.specs.Limits.{binding_room, buffer_room, variable_room}
use Rattle.reflection.specs.Reflection.{TypeNumbers, TypeDesc, type_desc, Members, no_member, member, member_count, CBufferVariable, CBufferDef}
use Rattle.reflection.specs.Reflection.{ResourceBinding, ResourceDef, is_sm5, is_wide, identifier_of, stride_of, slots_of}
use Rattle.tables.specs.Nodes.{type_levels}
use Rattle.tables.proofs.Levels.{Fits, FitsAll}
use Rattle.reflection.specs.Reflection.{all_variables}
use Rattle.reflection.specs.Contents.{Bytes, type_names, member_names, variable_names, outer_names, inner_names}
use Rattle.readable.specs.Readable.{every, name_readable, default_readable, zero_unless, version_readable, binding_readable, numbers_readable}
use Rattle.readable.specs.Readable.{type_readable}
use Rattle.readable.specs.Readable.{members_readable, variable_readable, room_kept, readable_contents}
use Rattle.theorem_round_trip.specs.RoundTrip.{type_numbers, member_numbers, variable_numbers, binding_numbers, buffer_numbers, EachIsWord, AllWords}
use Rattle.theorem_round_trip.specs.RoundTrip.{BuffersWords, NumbersAreWords}
use Rattle.theorem_round_trip.proofs.Lists.{All, all_append, every_all}
use Rattle.theorem_round_trip.proofs.Holds.{Longer}

pub record ReadableNumbers (sm5 : Bool) (k : TypeNumbers) : Type 0 where
  pub class : k.class < 65536
  pub var_type : k.var_type < 65536
  pub rows : k.rows < 65536
  pub columns : k.columns < 65536
  pub elements : k.elements < 65536
  pub extra0 : Longer sm5 k.extra0
  pub extra1 : Longer sm5 k.extra1
  pub extra2 : Longer sm5 k.extra2
  pub extra3 : Longer sm5 k.extra3

-- Only types of major 5 have names.
abbrev pub NamedIf : Bool → Bytes → Type 0
NamedIf false n = length n ≡ 0
NamedIf true n = Unit {0}

unfoldable mutual
  pub ReadableType : Bool → TypeDesc Bytes → Type 0
  ReadableType sm5 (type_desc k n ms) = ReadableNumbers sm5 k × NamedIf sm5 n × (member_count ms < 65536) × ReadableMembers sm5 ms × (name_readable n ≡ true)

  pub ReadableMembers : Bool → Members Bytes → Type 0
  ReadableMembers sm5 no_member = Unit {0}
  ReadableMembers sm5 (member n o t ms) = (o < 4294967296) × ReadableType sm5 t × ReadableMembers sm5 ms × (name_readable n ≡ true)

pub record ReadableVariable (sm5 : Bool) (v : CBufferVariable Bytes Bytes) : Type 0 where
  pub offset : v.offset < 4294967296
  pub size : v.size < 4294967296
  pub flags : v.flags < 4294967296
  pub slots : All (Longer sm5) (v.texture_start ∷ v.texture_size ∷ v.sampler_start ∷ v.sampler_size ∷ [])
  pub type : ReadableType sm5 v.var_type
  pub deep : Fits v.var_type type_levels
  pub default : default_readable v.size v.default-value ≡ true
  pub name : name_readable v.name ≡ true

pub record ReadableBuffer (sm5 : Bool) (b : CBufferDef Bytes Bytes) : Type 0 where
  pub name : name_readable b.name ≡ true
  pub words : EachIsWord (buffer_numbers b)
  pub few : length b.variables ≤ variable_room
  pub variables : All (ReadableVariable sm5) b.variables

pub record ReadableBinding (wide : Bool) (b : ResourceBinding Bytes) : Type 0 where
  pub name : name_readable b.name ≡ true
  pub words : EachIsWord (binding_numbers b)
  pub input_type : known input_types b.input_type ≡ true
  pub dimension : known srv_dimensions b.dimension ≡ true
  pub flags : binding_flags_allowed b.flags ≡ true
  pub longer : All (Longer wide) (b.space ∷ b.id ∷ [])

pub record Readable (r : ResourceDef Bytes Bytes) : Type 0 where
  pub version : version_readable r.target_version r.rd11 ≡ true
  pub words : EachIsWord (r.target_version ∷ r.compile_flags ∷ identifier_of r.rd11 ∷ stride_of r.rd11 ∷ slots_of r.rd11 ∷ [])
  pub creator : name_readable r.creator ≡ true
  pub bindings : All (ReadableBinding (is_wide r.rd11)) r.bindings
  pub buffers : All (ReadableBuffer (is_sm5 r.rd11)) r.constant_buffers
  pub room : room_kept r ≡ true

-- A test for every name.
abbrev Named : List Bytes → Type 0
Named ns = All (λ n. name_readable n ≡ true) ns

words_append : (xs ys : List ℕ) → EachIsWord (xs ++ ys) → EachIsWord xs × EachIsWord ys
unfolding EachIsWord
words_append [] ys h = (tt, h)
words_append (x ∷ xs) ys h = let (a, b) = words_append xs ys h.1 in ((h.0, a), b)

longer_all : (longer : Bool) (ws : List ℕ) → zero_unless longer ws ≡ true → EachIsWord ws → All (Longer longer) ws
unfolding EachIsWord zero_unless every
longer_all longer [] e h = tt
longer_all false (w ∷ ws) e h =
    let (a, b) = and-true (eqb w 0) (every (λ w. eqb w 0) ws) e in
    (eqb-true w 0 a, longer_all false ws b h.1)
longer_all true (w ∷ ws) e h = (h.0, longer_all true ws refl h.1)

named_if : (sm5 : Bool) (n : Bytes) → zero_unless sm5 (length n ∷ []) ≡ true → NamedIf sm5 n
unfolding zero_unless every
named_if false n e = eqb-true (length n) 0 (and-true (eqb (length n) 0) true e).0
named_if true n e = tt

small : (n : ℕ) → leb n 65535 ≡ true → n < 65536
small n e = omega (arith, leb-true n 65535 e)

readable_numbers : (sm5 : Bool) (k : TypeNumbers) → numbers_readable sm5 k ≡ true → EachIsWord (k.extra0 ∷ k.extra1 ∷ k.extra2 ∷ k.extra3 ∷ [])
    → ReadableNumbers sm5 k
unfolding numbers_readable
readable_numbers sm5 k e h =
    let (halves, extra) = and-true (every (λ n. leb n 65535) (k.class ∷ k.var_type ∷ k.rows ∷ k.columns ∷ k.elements ∷ []))
    (zero_unless sm5 (k.extra0 ∷ k.extra1 ∷ k.extra2 ∷ k.extra3 ∷ [])) e in
    let (class, (var_type, (rows, (columns, (elements, _))))) = every_all (λ n. leb n 65535)
    (k.class ∷ k.var_type ∷ k.rows ∷ k.columns ∷ k.elements ∷ []) halves in
    let (e₀, (e₁, (e₂, (e₃, _)))) = longer_all sm5 (k.extra0 ∷ k.extra1 ∷ k.extra2 ∷ k.extra3 ∷ []) extra h in
    record {
      class = small _ class;
      var_type = small _ var_type;
      rows = small _ rows;
      columns = small _ columns;
      elements = small _ elements;
      extra0 = e₀;
      extra1 = e₁;
      extra2 = e₂;
      extra3 = e₃;
    }

mutual
  unfolding type_readable ReadableType Fits type_names type_numbers EachIsWord

  readable_type : (sm5 : Bool) (t : TypeDesc Bytes) (levels : ℕ) → type_readable sm5 t levels ≡ true → Named (type_names t) → EachIsWord (type_numbers t)
      → ReadableType sm5 t × Fits t levels
  readable_type sm5 (type_desc k n ms) zero e names words = absurd (let z : ◌≡◌ {A = ℕ} 0 1 = cc in omega arith)
  readable_type sm5 (type_desc k n ms) (suc levels) e names words =
      let (numbers, e₁) = and-true (numbers_readable sm5 k) (leb (member_count ms) 65535 &&
      (zero_unless sm5 (length n ∷ []) && members_readable sm5 ms levels)) e in
      let (count, e₂) = and-true (leb (member_count ms) 65535) (zero_unless sm5 (length n ∷ []) && members_readable sm5 ms levels) e₁ in
      let (named, e₃) = and-true (zero_unless sm5 (length n ∷ [])) (members_readable sm5 ms levels) e₂ in
      let members = readable_members sm5 ms levels e₃ names.1 words.1.1.1.1 in (
        (
          readable_numbers sm5 k numbers (words.0, (words.1.0, (words.1.1.0, (words.1.1.1.0, tt)))),
          named_if sm5 n named,
          small (member_count ms) count,
          members.0,
          names.0,
        ),
        members.1,
      )

  readable_members : (sm5 : Bool) (ms : Members Bytes) (levels : ℕ) → members_readable sm5 ms levels ≡ true → Named (member_names ms)
      → EachIsWord (member_numbers ms)
      → ReadableMembers sm5 ms × FitsAll ms levels
  readable_members sm5 no_member levels e names words = (tt, tt)
  readable_members sm5 (member n o t ms) levels e names words =
      let (type, others) = and-true (type_readable sm5 t levels) (members_readable sm5 ms levels) e in
      let (own, later) = all_append (λ n. name_readable n ≡ true) (type_names t) (member_names ms) names.1 in
      let (own-words, later-words) = words_append (type_numbers t) (member_numbers ms) words.1 in
      let here = readable_type sm5 t levels type own own-words in
      let rest = readable_members sm5 ms levels others later later-words in
      ((words.0, here.0, rest.0, names.0), (here.1, rest.1))

readable_variable : (sm5 : Bool) (v : CBufferVariable Bytes Bytes) → variable_readable sm5 v ≡ true → name_readable v.name ≡ true
    → Named (type_names v.var_type)
    → EachIsWord (variable_numbers v) → ReadableVariable sm5 v
unfolding variable_readable variable_numbers EachIsWord
readable_variable sm5 v e name names words =
    let slots = v.texture_start ∷ v.texture_size ∷ v.sampler_start ∷ v.sampler_size ∷ [] in
    let (default, e₁) = and-true (default_readable v.size v.default-value) (zero_unless sm5 slots && type_readable sm5 v.var_type type_levels) e in
    let (longer, type) = and-true (zero_unless sm5 slots) (type_readable sm5 v.var_type type_levels) e₁ in
    let w = words.1.1.1 in
    let t = readable_type sm5 v.var_type type_levels type names w.1.1.1.1 in
    record {
      offset = words.0;
      size = words.1.0;
      flags = words.1.1.0;
      slots = longer_all sm5 slots longer (w.0, (w.1.0, (w.1.1.0, (w.1.1.1.0, tt))));
      type = t.0;
      deep = t.1;
      default = default;
      name = name;
    }

readable_variables : (sm5 : Bool) (vs : List (CBufferVariable Bytes Bytes)) → All (λ v. variable_readable sm5 v ≡ true) vs → Named (variable_names vs)
    → AllWords variable_numbers vs
    → All (ReadableVariable sm5) vs
unfolding variable_names AllWords
readable_variables sm5 [] e names words = tt
readable_variables sm5 (v ∷ vs) e names words =
    let (own, later) = all_append (λ n. name_readable n ≡ true) (type_names v.var_type) (variable_names vs) names.1 in
    (readable_variable sm5 v e.0 names.0 own words.0, readable_variables sm5 vs e.1 later words.1)

variable_names_append : (xs ys : List (CBufferVariable Bytes Bytes)) → variable_names (xs ++ ys) ≡ variable_names xs ++ variable_names ys
unfolding variable_names
variable_names_append [] ys = refl
variable_names_append (x ∷ xs) ys =
    ap (λ (l : List Bytes). x.name ∷ (type_names x.var_type ++ l)) (variable_names_append xs ys)
    ∙ ap (λ (l : List Bytes). x.name ∷ l) (sym (append_assoc (type_names x.var_type) (variable_names xs) (variable_names ys)))

readable_buffers : (sm5 : Bool) (bs : List (CBufferDef Bytes Bytes)) → Named (map (λ b. b.name) bs) → length (all_variables bs) ≤ variable_room
    → All (λ v. variable_readable sm5 v ≡ true) (all_variables bs) → Named (variable_names (all_variables bs)) → BuffersWords bs → All (ReadableBuffer sm5) bs
unfolding all_variables BuffersWords
readable_buffers sm5 [] outer few e names words = tt
readable_buffers sm5 (b ∷ bs) outer few e names words =
    let (own, others) = all_append (λ v. variable_readable sm5 v ≡ true) b.variables (all_variables bs) e in
    let (own-names, other_names) = all_append (λ n. name_readable n ≡ true) (variable_names b.variables) (variable_names (all_variables bs))
    (subst Named (variable_names_append b.variables (all_variables bs)) names) in
    let count = length-append b.variables (all_variables bs) in (
      record { name = outer.0; words = words.0; few = omega (arith, count); variables = readable_variables sm5 b.variables own own-names words.1.0 },
      readable_buffers sm5 bs outer.1 (omega (arith, count)) others other_names words.1.1,
    )

readable_binding : (wide : Bool) (b : ResourceBinding Bytes) → binding_readable wide b ≡ true → name_readable b.name ≡ true
    → EachIsWord (binding_numbers b) → ReadableBinding wide b
unfolding binding_readable binding_numbers EachIsWord
readable_binding wide b e name words =
    let (input_type, e₁) = and-true (known input_types b.input_type)
    (known srv_dimensions b.dimension && (binding_flags_allowed b.flags && zero_unless wide (b.space ∷ b.id ∷ []))) e in
    let (dimension, e₂) = and-true (known srv_dimensions b.dimension) (binding_flags_allowed b.flags && zero_unless wide (b.space ∷ b.id ∷ [])) e₁ in
    let (flags, longer) = and-true (binding_flags_allowed b.flags) (zero_unless wide (b.space ∷ b.id ∷ [])) e₂ in
    record {
      name = name;
      words = words;
      input_type = input_type;
      dimension = dimension;
      flags = flags;
      longer = longer_all wide
          (b.space ∷ b.id ∷ []) longer words.1.1.1.1.1.1.1;
    }

readable_bindings : (wide : Bool) (bs : List (ResourceBinding Bytes)) → All (λ b. binding_readable wide b ≡ true) bs → Named (map (λ b. b.name) bs)
    → AllWords binding_numbers bs
    → All (ReadableBinding wide) bs
unfolding AllWords
readable_bindings wide [] e names words = tt
readable_bindings wide (b ∷ bs) e names words = (readable_binding wide b e.0 names.0 words.0, readable_bindings wide bs e.1 names.1 words.1)

pub readable_parts : (r : ResourceDef Bytes Bytes) → readable_contents r ≡ true → NumbersAreWords r → Readable r
unfolding readable_contents outer_names inner_names room_kept
readable_parts r e numbers =
    let sm5 = is_sm5 r.rd11 in
    let wide = is_wide r.rd11 in
    let vs = all_variables r.constant_buffers in
    let (version, e₁) = and-true (version_readable r.target_version r.rd11) _ e in
    let (outer, e₂) = and-true (every name_readable (outer_names r)) _ e₁ in
    let (inner, e₃) = and-true (every name_readable (inner_names r)) _ e₂ in
    let (bindings, e₄) = and-true (every (binding_readable wide) r.bindings) _ e₃ in
    let (variables, room) = and-true (every (variable_readable sm5) vs) (room_kept r) e₄ in
    let (binding_names, buffer_names) = all_append (λ n. name_readable n ≡ true) (map (λ b. b.name) r.bindings)
    (map (λ b. b.name) r.constant_buffers) (every_all name_readable (outer_names r) outer) in
    let (variable-names, creator) = all_append (λ n. name_readable n ≡ true) (variable_names vs) (r.creator ∷ [])
    (every_all name_readable (inner_names r) inner) in
    let (_, r₁) = and-true (leb (length r.bindings) binding_room) _ room in
    let (_, r₂) = and-true (leb (length r.constant_buffers) buffer_room) _ r₁ in
    let (few, _) = and-true (leb (length vs) variable_room) _ r₂ in
    record {
      version = version;
      words = numbers.header;
      creator = creator.0;
      bindings = readable_bindings wide r.bindings (every_all (binding_readable wide) r.bindings bindings) binding_names numbers.bindings;
      buffers = readable_buffers sm5 r.constant_buffers buffer_names (leb-true (length vs) variable_room few)
          (every_all (variable_readable sm5) vs variables) variable-names numbers.buffers;
      room = room;
    }

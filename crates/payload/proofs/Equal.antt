-- Two reflections pass the test `same_def` by their bytes exactly where they are equal: part by part.
use mathlib.Core.Path.{◌≡◌, refl, ap}
use mathlib.Core.Bool.{Bool, true, ◌&&◌}
use mathlib.Core.List.{List, [], ◌∷◌}
use Prim.Native.Nat.{ℕ}
use native.Mathlib.Omega.{arith}
use borrow.Author.Tests.{eq-eqb}
use lib.ListN.{length, get_or, drop}
use Rattle.text.specs.Same.{same_bytes}
use Rattle.text.proofs.Bools.{and-true}
use Rattle.text.proofs.SameBytes.{same_bytes_equal, same_bytes_refl}
use Rattle.reflection.specs.Reflection.{TypeDesc, type_desc, Members, no_member, member, Rd11}
use Rattle.reflection.specs.Reflection.{no_rd11, rd11, ResourceBinding, CBufferVariable, CBufferDef, ResourceDef}
use Rattle.reflection.specs.Contents.{Bytes}
use Rattle.reflection.proofs.Equalities.{numbers_of_binding, equal_bindings, numbers_of_variable, equal_variables, numbers_of_buffer, equal_buffers}
use Rattle.reflection.proofs.Equalities.{equal_defs}
use Rattle.write_spec.specs.Same.{numbers_of, same_type, same_members, same_list, same_binding, same_variable, same_buffer, same_def, rd11_numbers}
use Rattle.theorem_round_trip.proofs.Types.{same_type_equal}

list_equal : {A : Type 0} (same : A → A → Bool) → ((x y : A) → same x y ≡ true → x ≡ y) → (xs ys : List A) → same_list same xs ys ≡ true → xs ≡ ys
unfolding same_list
list_equal same each [] [] e = refl
list_equal same each [] (y ∷ ys) e = cc
list_equal same each (x ∷ xs) [] e = cc
list_equal same each (x ∷ xs) (y ∷ ys) e =
    let (first, others) = and-true (same x y) (same_list same xs ys) e in
    let p = each x y first in
    let q = list_equal same each xs ys others in
    λ i. p i ∷ q i

binding_equal : (b c : ResourceBinding Bytes) → same_binding {D = Bytes} same_bytes same_bytes b c ≡ true → b ≡ c
unfolding same_binding
binding_equal b c e =
    let bs = numbers_of_binding b in
    let cs = numbers_of_binding c in
    let (names, numbers) = and-true (same_bytes b.name c.name) (same_bytes bs cs) e in
    equal_bindings b c (same_bytes_equal b.name c.name names) (same_bytes_equal bs cs numbers)

variable_equal : (v w : CBufferVariable Bytes Bytes) → same_variable same_bytes same_bytes v w ≡ true → v ≡ w
unfolding same_variable
variable_equal v w e =
    let vs = numbers_of_variable v in
    let ws = numbers_of_variable w in
    let types = same_type same_bytes v.var_type w.var_type in
    let (names, e₁) = and-true (same_bytes v.name w.name) (same_bytes vs ws && (same_bytes v.default-value w.default-value && types)) e in
    let (numbers, e₂) = and-true (same_bytes vs ws) (same_bytes v.default-value w.default-value && types) e₁ in
    let (defaults, equal_types) = and-true (same_bytes v.default-value w.default-value) types e₂ in
    equal_variables v w (same_bytes_equal v.name w.name names) (same_bytes_equal vs ws numbers)
    (same_bytes_equal v.default-value w.default-value defaults) (same_type_equal v.var_type w.var_type equal_types)

buffer_equal : (b c : CBufferDef Bytes Bytes) → same_buffer same_bytes same_bytes b c ≡ true → b ≡ c
unfolding same_buffer
buffer_equal b c e =
    let bs = numbers_of_buffer b in
    let cs = numbers_of_buffer c in
    let all = same_list (same_variable same_bytes same_bytes) b.variables c.variables in
    let (names, e₁) = and-true (same_bytes b.name c.name) (same_bytes bs cs && all) e in
    let (numbers, variables) = and-true (same_bytes bs cs) all e₁ in
    equal_buffers b c (same_bytes_equal b.name c.name names) (same_bytes_equal bs cs numbers)
    (list_equal (same_variable same_bytes same_bytes) variable_equal b.variables c.variables variables)

rd11_equal : (w x : Rd11) → rd11_numbers w ≡ rd11_numbers x → w ≡ x
unfolding rd11_numbers
rd11_equal no_rd11 no_rd11 e = refl
rd11_equal no_rd11 (rd11 a b c) e = absurd (let apart : ◌≡◌ {A = ℕ} 0 3 = ap length e in omega (arith, apart))
rd11_equal (rd11 a b c) no_rd11 e = absurd (let apart : ◌≡◌ {A = ℕ} 3 0 = ap length e in omega (arith, apart))
rd11_equal (rd11 a b c) (rd11 a' b' c') e = λ i. rd11 (get_or (e i) 0 0) (get_or (e i) 1 0) (get_or (e i) 2 0)

pub same_def_equal : (r q : ResourceDef Bytes Bytes) → same_def same_bytes same_bytes r q ≡ true → r ≡ q
unfolding same_def
same_def_equal r q e =
    let rs = r.target_version ∷ r.compile_flags ∷ rd11_numbers r.rd11 in
    let qs = q.target_version ∷ q.compile_flags ∷ rd11_numbers q.rd11 in
    let bindings = same_list (same_binding {D = Bytes} same_bytes same_bytes) r.bindings q.bindings in
    let buffers = same_list (same_buffer same_bytes same_bytes) r.constant_buffers q.constant_buffers in
    let (numbers, e₁) = and-true (same_bytes rs qs) (same_bytes r.creator q.creator && (bindings && buffers)) e in
    let (creators, e₂) = and-true (same_bytes r.creator q.creator) (bindings && buffers) e₁ in
    let (bindings-alike, buffers-alike) = and-true bindings buffers e₂ in
    let p = same_bytes_equal rs qs numbers in
    equal_defs r q (λ i. get_or (p i) 0 0 ∷ get_or (p i) 1 0 ∷ []) (rd11_equal r.rd11 q.rd11 (ap (drop 2) p))
    (same_bytes_equal r.creator q.creator creators)
    (list_equal (same_binding {D = Bytes} same_bytes same_bytes) binding_equal r.bindings q.bindings bindings-alike)
    (list_equal (same_buffer same_bytes same_bytes) buffer_equal r.constant_buffers q.constant_buffers buffers-alike)

-- Each is equal to itself.
list_refl : {A : Type 0} (same : A → A → Bool) → ((x : A) → same x x ≡ true) → (xs : List A) → same_list same xs xs ≡ true
unfolding same_list
list_refl same each [] = refl
list_refl same each (x ∷ xs) =
    let p = each x in
    let q = list_refl same each xs in
    λ i. p i && q i

mutual
  unfolding same_type same_members

  type_refl : (t : TypeDesc Bytes) → same_type same_bytes t t ≡ true
  type_refl (type_desc k n ms) =
      let p = same_bytes_refl (numbers_of k) in
      let q = same_bytes_refl n in
      let o = members_refl ms in
      λ i. p i && (q i && o i)

  members_refl : (ms : Members Bytes) → same_members same_bytes ms ms ≡ true
  members_refl no_member = refl
  members_refl (member n o t ms) =
      let p = same_bytes_refl n in
      let q = eq-eqb o o refl in
      let u = type_refl t in
      let v = members_refl ms in
      λ i. p i && (q i && (u i && v i))

binding_refl : (b : ResourceBinding Bytes) → same_binding {D = Bytes} same_bytes same_bytes b b ≡ true
unfolding same_binding
binding_refl b =
    let p = same_bytes_refl b.name in
    let q = same_bytes_refl (numbers_of_binding b) in
    λ i. p i && q i

variable_refl : (v : CBufferVariable Bytes Bytes) → same_variable same_bytes same_bytes v v ≡ true
unfolding same_variable
variable_refl v =
    let p = same_bytes_refl v.name in
    let q = same_bytes_refl (numbers_of_variable v) in
    let d = same_bytes_refl v.default-value in
    let t = type_refl v.var_type in
    λ i. p i && (q i && (d i && t i))

buffer_refl : (b : CBufferDef Bytes Bytes) → same_buffer same_bytes same_bytes b b ≡ true
unfolding same_buffer
buffer_refl b =
    let p = same_bytes_refl b.name in
    let q = same_bytes_refl (numbers_of_buffer b) in
    let vs = list_refl (same_variable same_bytes same_bytes) variable_refl b.variables in
    λ i. p i && (q i && vs i)

pub same_def_refl : (r : ResourceDef Bytes Bytes) → same_def same_bytes same_bytes r r ≡ true
unfolding same_def
same_def_refl r =
    let p = same_bytes_refl (r.target_version ∷ r.compile_flags ∷ rd11_numbers r.rd11) in
    let c = same_bytes_refl r.creator in
    let bs = list_refl (same_binding {D = Bytes} same_bytes same_bytes) binding_refl r.bindings in
    let cs = list_refl (same_buffer same_bytes same_bytes) buffer_refl r.constant_buffers in
    λ i. p i && (c i && (bs i && cs i))

-- A reflection with its defaults numbered, and the defaults by number: together they are the reflection, and two reflections that share all but their defaults
-- have the same numbered one, since the numbers count variables alone.
use mathlib.Core.Path.{◌≡◌, refl, ap, sym, ◌∙◌}
use mathlib.Core.List.{List, [], ◌∷◌, ◌++◌, map, map-append}
use Prim.Native.Nat.{ℕ, zero, suc, ◌+◌}
use native.Mathlib.Omega.{arith}
use native.Mathlib.Nat.{add-zero}
use lib.ListN.{length, length-map, get_or, drop}
use Rattle.reflection.specs.Reflection.{CBufferVariable, CBufferDef, ResourceDef, map_type, map_binding, map_variable, map_buffer, map_def}
use Rattle.reflection.proofs.Equalities.{equal_variables, equal_buffers, equal_defs}
use Rattle.reflection.specs.Contents.{Bytes, defaults_of}
use Rattle.reflection.specs.Reflection.{all_variables}
use Rattle.theorem_round_trip.proofs.Maps.{map_same, map_type_same, map_binding_same}
use Rattle.theorem_noninterference.specs.Noninterference.{default_number, without_defaults, SameButDefaults}

-- The variables from number k on.
number_variables : {N D : Type 0} → ℕ → List (CBufferVariable N D) → List (CBufferVariable N ℕ)
number_variables k [] = []
number_variables k (v ∷ vs) = map_variable (λ n. n) (λ d. k) v ∷ number_variables (suc k) vs

number_buffers : {N D : Type 0} → ℕ → List (CBufferDef N D) → List (CBufferDef N ℕ)
number_buffers k [] = []
number_buffers k (b ∷ bs) =
    record { name = b.name; size = b.size; flags = b.flags; cb_type = b.cb_type; variables = number_variables k b.variables }
    ∷ number_buffers (k + length b.variables) bs

pub numbered : {N D : Type 0} → ResourceDef N D → ResourceDef N ℕ
numbered r = record {
  target_version = r.target_version;
  compile_flags = r.compile_flags;
  rd11 = r.rd11;
  creator = r.creator;
  bindings = r.bindings;
  constant_buffers = number_buffers 0 r.constant_buffers;
}

-- The numbers do not depend on the defaults.
same_number : {N D E : Type 0} (g : D → E) (k : ℕ) (v : CBufferVariable N D)
    → map_variable (λ n. n) (λ e. k) (map_variable (λ n. n) g v) ≡ map_variable (λ n. n) (λ d. k) v
unfolding map_variable
same_number g k v = equal_variables _ _ refl refl refl (map_type_same (map_type (λ n. n) v.var_type))

same_variables : {N D E : Type 0} (g : D → E) (k : ℕ) (vs : List (CBufferVariable N D))
    → number_variables k (map (map_variable (λ n. n) g) vs) ≡ number_variables k vs
unfolding number_variables
same_variables g k [] = refl
same_variables g k (v ∷ vs) =
    let q = same_variables g (suc k) vs in
    λ i. same_number g k v i ∷ q i

same_buffers : {N D E : Type 0} (g : D → E) (k : ℕ) (bs : List (CBufferDef N D)) → number_buffers k (map (map_buffer (λ n. n) g) bs) ≡ number_buffers k bs
unfolding number_buffers map_buffer
same_buffers g k [] = refl
same_buffers g k (b ∷ bs) =
    let p = equal_buffers _ _ refl refl (same_variables g k b.variables) in
    let q = ap (λ (n : ℕ). number_buffers (k + n) (map (map_buffer (λ n. n) g) bs)) (length-map b.variables (map_variable (λ n. n) g))
    ∙ same_buffers g (k + length b.variables) bs in
    λ i. p i ∷ q i

numbered_map : {N D E : Type 0} (g : D → E) (r : ResourceDef N D) → numbered (map_def (λ n. n) g r) ≡ numbered r
unfolding numbered map_def
numbered_map g r = equal_defs _ _ refl refl refl (map_same (map_binding (λ n. n)) map_binding_same r.bindings) (same_buffers g 0 r.constant_buffers)

pub same_numbered : (a b : ResourceDef Bytes Bytes) → SameButDefaults a b → numbered a ≡ numbered b
unfolding without_defaults
same_numbered a b h = sym (numbered_map (λ d. tt) a) ∙ ap numbered h.numbers_and_names ∙ numbered_map (λ d. tt) b

-- Element k of a list whose rest from k on is known; the rest after it, and after several.
element : {A : Type 0} (l : List A) (k : ℕ) (d x : A) (xs : List A) → drop k l ≡ x ∷ xs → get_or l k d ≡ x
element [] zero d x xs h = ap (λ (l : List _). get_or l 0 d) h
element [] (suc k) d x xs h = ap (λ (l : List _). get_or l 0 d) h
element (y ∷ l) zero d x xs h = ap (λ (l : List _). get_or l 0 d) h
element (y ∷ l) (suc k) d x xs h = element l k d x xs h

rest : {A : Type 0} (l : List A) (k : ℕ) (x : A) (xs : List A) → drop k l ≡ x ∷ xs → drop (suc k) l ≡ xs
rest [] zero x xs h = ap (drop 1) h
rest [] (suc k) x xs h = ap (drop 1) h
rest (y ∷ l) zero x xs h = ap (drop 1) h
rest (y ∷ l) (suc k) x xs h = rest l k x xs h

rests : {A : Type 0} (l : List A) (k : ℕ) (xs ys : List A) → drop k l ≡ xs ++ ys → drop (k + length xs) l ≡ ys
rests l k [] ys h = ap (λ (n : ℕ). drop n l) (add-zero k) ∙ h
rests l k (x ∷ xs) ys h = ap (λ (n : ℕ). drop n l) (let e : k + suc (length xs) ≡ suc k + length xs = omega arith in e)
    ∙ rests l (suc k) xs ys (rest l k x (xs ++ ys) h)

-- Each variable has its own default back by its number.
abbrev at_number : {D : Type 0} → List D → D → ℕ → D
at_number ds d i = get_or ds i d

module _ {N D : Type 0} (ds : List D) (d : D) where
  own_default : (k : ℕ) (v : CBufferVariable N D) → get_or ds k d ≡ v.default-value
      → map_variable (λ n. n) (at_number ds d) (map_variable (λ n. n) (λ e. k) v) ≡ v
  unfolding map_variable
  own_default k v e = equal_variables _ v refl refl e (map_type_same (map_type (λ n. n) v.var_type) ∙ map_type_same v.var_type)

  own_variables : (k : ℕ) (vs : List (CBufferVariable N D)) (others : List D) → drop k ds ≡ map (λ v. v.default-value) vs ++ others
      → map (map_variable (λ n. n) (at_number ds d)) (number_variables k vs) ≡ vs
  unfolding number_variables
  own_variables k [] others h = refl
  own_variables k (v ∷ vs) others h =
      let p = own_default k v (element ds k d v.default-value (map (λ w. w.default-value) vs ++ others) h) in
      let q = own_variables (suc k) vs others (rest ds k v.default-value (map (λ w. w.default-value) vs ++ others) h) in
      λ i. p i ∷ q i

  own_buffers : (k : ℕ) (bs : List (CBufferDef N D)) → drop k ds ≡ map (λ v. v.default-value) (all_variables bs)
      → map (map_buffer (λ n. n) (at_number ds d)) (number_buffers k bs) ≡ bs
  unfolding number_buffers map_buffer all_variables
  own_buffers k [] h = refl
  own_buffers k (b ∷ bs) h =
      let own = map (λ v. v.default-value) b.variables in
      let others = map (λ v. v.default-value) (all_variables bs) in
      let e : drop k ds ≡ own ++ others = h ∙ map-append (λ v. v.default-value) b.variables (all_variables bs) in
      let p = equal_buffers _ b refl refl (own_variables k b.variables others e) in
      let q = own_buffers (k + length b.variables) bs
      (ap (λ (n : ℕ). drop (k + n) ds) (sym (length-map b.variables (λ v. v.default-value))) ∙ rests ds k own others e) in
      λ i. p i ∷ q i

pub defaults_back : (a : ResourceDef Bytes Bytes) → map_def (λ n. n) (default_number a) (numbered a) ≡ a
unfolding numbered map_def default_number defaults_of
defaults_back a =
    equal_defs _ a refl refl refl (map_same (map_binding (λ n. n)) map_binding_same a.bindings)
    (own_buffers (map (λ v. v.default-value) (all_variables a.constant_buffers)) [] 0 a.constant_buffers refl)

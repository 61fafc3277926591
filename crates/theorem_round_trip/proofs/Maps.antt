-- Another kind of name and default in a reflection, twice, is once: and the same kind leaves it as it is. By induction on types and lists.
use mathlib.Core.Path.{◌≡◌, refl}
use mathlib.Core.List.{List, [], ◌∷◌, map}
use Rattle.reflection.specs.Reflection.{TypeDesc, type_desc, Members, no_member, member, CBufferVariable, CBufferDef, ResourceBinding, ResourceDef}
use Rattle.reflection.specs.Reflection.{map_type, map_members, map_binding, map_variable, map_buffer, map_def}
use Rattle.reflection.proofs.Equalities.{equal_variables, equal_buffers, equal_defs}

-- Lists element by element.
map_by : {A B C : Type 0} (f : B → C) (g : A → B) (h : A → C) → ((a : A) → f (g a) ≡ h a) → (l : List A) → map f (map g l) ≡ map h l
map_by f g h e [] = refl
map_by f g h e (x ∷ xs) = let q = map_by f g h e xs in λ i. e x i ∷ q i

pub map_same : {A : Type 0} (f : A → A) → ((a : A) → f a ≡ a) → (l : List A) → map f l ≡ l
map_same f e [] = refl
map_same f e (x ∷ xs) = let q = map_same f e xs in λ i. e x i ∷ q i

module _ {N M K : Type 0} (f : M → K) (g : N → M) where
  mutual
    unfolding map_type

    pub map_type_twice : (t : TypeDesc N) → map_type f (map_type g t) ≡ map_type (λ n. f (g n)) t
    map_type_twice (type_desc k n ms) = let q = map_members_twice ms in λ i. type_desc k (f (g n)) (q i)

    map_members_twice : (ms : Members N) → map_members f (map_members g ms) ≡ map_members (λ n. f (g n)) ms
    map_members_twice no_member = refl
    map_members_twice (member n o t ms) = let p = map_type_twice t in let q = map_members_twice ms in λ i. member (f (g n)) o (p i) (q i)

  map_binding_twice : (b : ResourceBinding N) → map_binding f (map_binding g b) ≡ map_binding (λ n. f (g n)) b
  unfolding map_binding
  map_binding_twice b = refl

  module _ {D E F : Type 0} (f' : E → F) (g' : D → E) where
    map_variable_twice : (v : CBufferVariable N D) → map_variable f f' (map_variable g g' v) ≡ map_variable (λ n. f (g n)) (λ d. f' (g' d)) v
    unfolding map_variable
    map_variable_twice v = equal_variables _ _ refl refl refl (map_type_twice v.var_type)

    map_buffer_twice : (b : CBufferDef N D) → map_buffer f f' (map_buffer g g' b) ≡ map_buffer (λ n. f (g n)) (λ d. f' (g' d)) b
    unfolding map_buffer
    map_buffer_twice b =
        equal_buffers _ _ refl refl
        (map_by (map_variable f f') (map_variable g g') (map_variable (λ n. f (g n)) (λ d. f' (g' d))) map_variable_twice b.variables)

    pub map_def_twice : (r : ResourceDef N D) → map_def f f' (map_def g g' r) ≡ map_def (λ n. f (g n)) (λ d. f' (g' d)) r
    unfolding map_def
    map_def_twice r =
        equal_defs _ _ refl refl refl
        (map_by (map_binding f) (map_binding g) (map_binding (λ n. f (g n))) map_binding_twice r.bindings)
        (map_by (map_buffer f f') (map_buffer g g') (map_buffer (λ n. f (g n)) (λ d. f' (g' d))) map_buffer_twice r.constant_buffers)

module _ {N : Type 0} where
  mutual
    unfolding map_type

    pub map_type_same : (t : TypeDesc N) → map_type (λ n. n) t ≡ t
    map_type_same (type_desc k n ms) = let q = map_members_same ms in λ i. type_desc k n (q i)

    map_members_same : (ms : Members N) → map_members (λ n. n) ms ≡ ms
    map_members_same no_member = refl
    map_members_same (member n o t ms) = let p = map_type_same t in let q = map_members_same ms in λ i. member n o (p i) (q i)

  pub map_binding_same : (b : ResourceBinding N) → map_binding (λ n. n) b ≡ b
  unfolding map_binding
  map_binding_same b = refl

  module _ {D : Type 0} where
    map_variable_same : (v : CBufferVariable N D) → map_variable (λ n. n) (λ d. d) v ≡ v
    unfolding map_variable
    map_variable_same v = equal_variables _ v refl refl refl (map_type_same v.var_type)

    map_buffer_same : (b : CBufferDef N D) → map_buffer (λ n. n) (λ d. d) b ≡ b
    unfolding map_buffer
    map_buffer_same b =
        equal_buffers _ b refl refl (map_same (map_variable (λ n. n) (λ d. d)) map_variable_same b.variables)

    pub map_def_same : (r : ResourceDef N D) → map_def (λ n. n) (λ d. d) r ≡ r
    unfolding map_def
    map_def_same r =
        equal_defs _ r refl refl refl (map_same (map_binding (λ n. n)) map_binding_same r.bindings)
        (map_same (map_buffer (λ n. n) (λ d. d)) map_buffer_same r.constant_buffers)

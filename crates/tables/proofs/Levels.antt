-- Types of at most so many levels, as a proposition; decoding builds just these (proofs/Decode.antt).
use mathlib.Core.List.{List, [], ◌∷◌}
use Prim.Native.Nat.{ℕ, zero, suc}
use Rattle.reflection.specs.Limits.{type_levels}
use Rattle.reflection.specs.Reflection.{TypeDesc, type_desc, Members, no_member, member, CBufferVariable}

-- The type has at most so many levels.
unfoldable mutual
  pub Fits : {N : Type 0} → TypeDesc N → ℕ → Type 0
  Fits (type_desc k n ms) zero = ⊥
  Fits (type_desc k n ms) (suc levels) = FitsAll ms levels

  pub FitsAll : {N : Type 0} → Members N → ℕ → Type 0
  FitsAll no_member levels = Unit {0}
  FitsAll (member n o t ms) levels = Fits t levels × FitsAll ms levels

-- Every variable's type has at most as many levels as can be built.
unfoldable pub TypesFit : {N D : Type 0} → List (CBufferVariable N D) → Type 0
TypesFit [] = Unit {0}
TypesFit (v ∷ vs) = Fits v.var_type type_levels × TypesFit vs

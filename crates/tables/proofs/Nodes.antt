-- The nodes of a type build it again, and leave the nodes after them: by induction on the type, its members first.
use Rattle.std.specs.Prelude.{Option, Some}
use mathlib.Core.Path.{◌≡◌, refl, ap, ◌∙◌}
use mathlib.Core.List.{List, ◌++◌, append_assoc}
use Prim.Native.Nat.{ℕ, zero, suc}
use Rattle.reflection.specs.Reflection.{TypeDesc, type_desc, Members, no_member, member, member_count}
use Rattle.tables.specs.Nodes.{Node, nodes_of, nodes_of_members, ◌>>=◌, members_from_nodes, type_from_nodes}
use Rattle.tables.proofs.Levels.{Fits, FitsAll}

pub then_some : {A B : Type 0} {m : Option A} {a : A} {r : Option B} (f : A → Option B) → m ≡ Some a → f a ≡ r → (m >>= f) ≡ r
unfolding ◌>>=◌
then_some f e h = ap (λ (o : Option _). o >>= f) e ∙ h

mutual
  unfolding nodes_of type_from_nodes members_from_nodes Fits member_count

  pub type_from : {N : Type 0} (t : TypeDesc N) (levels : ℕ) (mn : N) (mo : ℕ) (rest : List (Node N)) → Fits t levels
      → type_from_nodes levels (nodes_of mn mo t ++ rest) ≡ Some (record { type = t; member_name = mn; member_offset = mo; left = rest })
  type_from (type_desc k n ms) zero mn mo rest fits = absurd fits
  type_from (type_desc k n ms) (suc levels) mn mo rest fits = then_some _ (members_from_lem ms levels rest fits) refl

  pub members_from_lem : {N : Type 0} (ms : Members N) (levels : ℕ) (rest : List (Node N)) → FitsAll ms levels
      → members_from_nodes (type_from_nodes levels) (member_count ms) (nodes_of_members ms ++ rest) ≡ Some (ms, rest)
  members_from_lem no_member levels rest fits = refl
  members_from_lem (member n o t ms) levels rest fits =
      then_some _
      (ap (type_from_nodes levels) (append_assoc (nodes_of n o t) (nodes_of_members ms) rest) ∙ type_from t levels n o (nodes_of_members ms ++ rest) fits.0)
      (then_some _ (members_from_lem ms levels rest fits.1) refl)

-- Steps that write no byte of a default: all but the step for a default itself. Names, types and records are cells of other kinds.
use Rattle.std.specs.Prelude.{Option, None, Some}
use mathlib.Core.List.{List, [], ◌∷◌, ◌++◌, map}
use mathlib.Core.Bool.{Bool, true, false, ◌&&◌}
use Prim.Native.Nat.{ℕ, zero, suc, ◌+◌, ◌*◌}
use lib.Dec.{eqb}
use lib.ListN.{replicate}
use Rattle.words.specs.Words.{word_bytes}
use Rattle.reflection.specs.Reflection.{TypeNumbers, TypeDesc, type_desc, Members, no_member, member, member_count}
use Rattle.write_spec.specs.Step.{Cell, byte, name_byte, default_byte, TextFacts, Pools, WriteStep, ◌>>=◌, return, append, add_to_pool}
use Rattle.write_spec.specs.Step.{add_to_pool_if, pad}
use Rattle.write_spec.specs.Step.{padding_at, word_cells, reserve, found, interned, unless_empty, in_member_pool, enter_member, add_type, cells_of}
use Rattle.write_spec.specs.Records.{type_words_in_chunk}
use Rattle.write_spec.specs.Layout.{name_cells, place_outer_name, place_inner_name, write_type, place_type, place_members, place_outer_names}

-- A cell that holds a byte of a default.
abbrev pub OfDefault : {N D : Type 0} → Cell N D → Type 0
OfDefault (byte b) = ⊥
OfDefault (name_byte n j) = ⊥
OfDefault (default_byte d j) = Unit {0}

-- Cells none of which is of a default.
abbrev pub Plain : {N D : Type 0} → List (Cell N D) → Type 0
Plain [] = Unit {0}
Plain (c ∷ cs) = (OfDefault c → ⊥) × Plain cs

plain_append : {N D : Type 0} (xs ys : List (Cell N D)) → Plain xs → Plain ys → Plain (xs ++ ys)
plain_append [] ys h k = k
plain_append (x ∷ xs) ys h k = (h.0, plain_append xs ys h.1 k)

plain_cells : {N D : Type 0} (n : ℕ) (cell : ℕ → Cell N D) → ((j : ℕ) → OfDefault (cell j) → ⊥) → Plain (cells_of n cell)
unfolding cells_of
plain_cells zero cell h = tt
plain_cells (suc n) cell h = (h 0, plain_cells n (λ j. cell (suc j)) (λ j. h (suc j)))

plain_padding : (N D : Type 0) (n b : ℕ) → Plain (replicate {A = Cell N D} n (byte b))
plain_padding N D zero b = tt
plain_padding N D (suc n) b = ((λ d. d), plain_padding N D n b)

plain_bytes : (N D : Type 0) (bs : List ℕ) → Plain (map {A = ℕ} {B = Cell N D} byte bs)
plain_bytes N D [] = tt
plain_bytes N D (b ∷ bs) = ((λ d. d), plain_bytes N D bs)

pub plain_words : (N D : Type 0) (ws : List ℕ) → Plain (word_cells {N = N} {D = D} ws)
unfolding word_cells
plain_words N D [] = tt
plain_words N D (w ∷ ws) = plain_append (map byte (word_bytes w)) (word_cells ws) (plain_bytes N D (word_bytes w)) (plain_words N D ws)

-- A step whose cells are plain.
pub record PlainStep {N D A : Type 0} (m : WriteStep N D A) : Type 0 where
  pub plain : (at : ℕ) (ps : Pools N D) → Plain (m at ps).cells

module _ {N D : Type 0} where
  plain_bind : {A B : Type 0} {m : WriteStep N D A} {k : A → WriteStep N D B} → PlainStep m → ((a : A) → PlainStep (k a)) → PlainStep (m >>= k)
  unfolding ◌>>=◌
  plain_bind {A} {B} {m} {k} h e = record { plain = λ at ps. plain_append (m at ps).cells _ (h.plain at ps) ((e (m at ps).result).plain _ _) }

  plain_return : {A : Type 0} (a : A) → PlainStep {N = N} {D = D} (return a)
  unfolding return
  plain_return a = record { plain = λ at ps. tt }

  plain_add_to_pool : (add : ℕ → Pools N D → Pools N D) (o : ℕ) → PlainStep (add_to_pool add o)
  unfolding add_to_pool
  plain_add_to_pool add o = record { plain = λ at ps. tt }

  plain_add_to_pool_if : (b : Bool) (add : ℕ → Pools N D → Pools N D) (o : ℕ) → PlainStep (add_to_pool_if b add o)
  unfolding add_to_pool_if
  plain_add_to_pool_if true add o = plain_add_to_pool add o
  plain_add_to_pool_if false add o = plain_return o

  plain_append_step : (cs : List (Cell N D)) → Plain cs → PlainStep (append cs)
  unfolding append
  plain_append_step cs h = record { plain = λ at ps. h }

  pub plain_pad : PlainStep {N = N} {D = D} pad
  unfolding pad
  plain_pad = record { plain = λ at ps. plain_padding N D (padding_at at) 0xab }

  pub plain_reserve : {A : Type 0} (n : ℕ) (words : A → List ℕ) {m : WriteStep N D A} → PlainStep m → PlainStep (reserve n words m)
  unfolding reserve
  plain_reserve n words {m} h = record {
    plain = λ at ps. plain_append (word_cells (words (m (at + 4 * n) ps).result)) _ (plain_words N D _)
        (h.plain (at + 4 * n) ps);
  }

  plain_below : {A : Type 0} {m : WriteStep N D A} → PlainStep m → PlainStep (in_member_pool m)
  unfolding in_member_pool
  plain_below h = record { plain = λ at ps. h.plain at (enter_member ps) }

  plain_interned : (b : Bool) (look : Pools N D → Option ℕ) {m : WriteStep N D ℕ} → PlainStep m → PlainStep (interned b look m)
  unfolding interned
  plain_interned true look {m} h = record { plain = λ at ps. go (look ps) at ps }
    where
      go : (l : Option ℕ) (at : ℕ) (ps : Pools N D) → Plain (found l m at ps).cells
      go None at ps = h.plain at ps
      go (Some o) at ps = tt
  plain_interned false look h = record { plain = h.plain }

  plain_unless_empty : (n : ℕ) {m : WriteStep N D ℕ} → PlainStep m → PlainStep (unless_empty n m)
  unfolding unless_empty
  plain_unless_empty zero h = plain_return 0
  plain_unless_empty (suc n) h = h

module _ {N D : Type 0} (O : TextFacts N D) where
  plain_name_cells : (n : N) → Plain (name_cells O n)
  unfolding name_cells
  plain_name_cells n = plain_append (cells_of (O.name_length n) (name_byte n)) (byte 0 ∷ []) (plain_cells (O.name_length n) (name_byte n) (λ j d. d))
      ((λ d. d), tt)

  pub plain_outer_name : (n : N) → PlainStep (place_outer_name O n)
  unfolding place_outer_name
  plain_outer_name n = plain_interned true _ (plain_bind (plain_append_step _ (plain_name_cells n)) λ o. plain_add_to_pool _ o)

  pub plain_inner_name : (n : N) → PlainStep (place_inner_name O n)
  unfolding place_inner_name
  plain_inner_name n = plain_interned true _ (plain_bind (plain_append_step _ (plain_name_cells n)) λ o. plain_add_to_pool _ o)

  pub plain_outer_names : (ns : List N) → PlainStep (place_outer_names O ns)
  unfolding place_outer_names
  plain_outer_names [] = plain_return []
  plain_outer_names (n ∷ ns) = plain_bind (plain_outer_name n) λ o. plain_bind (plain_outer_names ns) λ os. plain_return (o ∷ os)

  plain_write_type : (sm5 : Bool) (k : TypeNumbers) (n : N) (count : ℕ) {ms : WriteStep N D (List ℕ)} → PlainStep ms → PlainStep (write_type O sm5 k n count ms)
  unfolding write_type
  plain_write_type sm5 k n count h =
      plain_bind (plain_unless_empty _ (plain_inner_name n)) λ name. plain_bind h λ records.
      plain_bind (plain_unless_empty count (plain_bind plain_pad λ _. plain_append_step (word_cells records) (plain_words N D records))) λ members.
      plain_bind plain_pad λ _.
      plain_append_step _ (plain_words N D (type_words_in_chunk sm5 k count members name))

  mutual
    unfolding place_type

    pub plain_type : (sm5 share : Bool) (t : TypeDesc N) → PlainStep (place_type O sm5 share t)
    plain_type sm5 share (type_desc k n ms) =
        plain_interned (share && eqb k.elements 0) _ (plain_bind (plain_write_type sm5 k n (member_count ms) (plain_members sm5 ms)) λ o.
        plain_add_to_pool_if share (add_type (type_desc k n ms)) o)

    plain_members : (sm5 : Bool) (ms : Members N) → PlainStep (place_members O sm5 ms)
    plain_members sm5 no_member = plain_return []
    plain_members sm5 (member n offset t ms) =
        plain_bind (plain_inner_name n) λ name. plain_bind (plain_below (plain_type sm5 true t)) λ type. plain_bind (plain_members sm5 ms) λ records.
        plain_return (name ∷ type ∷ offset ∷ records)

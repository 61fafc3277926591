-- A step of canonical writing. It sees a reflection's numbers, the lengths of its names and defaults, and which of them are equal, and nothing else of
-- them: what it appends are cells, and the bytes are filled in at the end. N is what stands for a name, D for a default.
use Rattle.std.specs.Prelude.{Bool, true, false, List, [], ◌∷◌, ◌++◌, map, ℕ, zero, suc, ◌+◌, ◌*◌, ◌-◌, ◌%◌, length, replicate, Option, None, Some}
use Rattle.words.specs.Words.{word_bytes}
use Rattle.reflection.specs.Reflection.{TypeDesc}

-- A cell of the output: a byte that is known, byte j of a name, byte j of a default.
pub data Cell (N D : Type 0) : Type 0 where
  byte : ℕ → Cell N D
  name_byte : N → ℕ → Cell N D
  default_byte : D → ℕ → Cell N D

-- All that the layout may know of names and defaults.
pub record TextFacts (N D : Type 0) : Type 0 where
  pub name_length : N → ℕ
  pub same_name : N → N → Bool
  pub default_length : D → ℕ
  pub same_default : D → D → Bool

-- What was written interned, with its offset. Two string pools: names of bindings and buffers; all other names. Types that may be shared where one is
-- looked up now (`types`), and those among which its members are looked up (`member_types`). Defaults.
pub record Pools (N D : Type 0) : Type 0 where
  pub outer_names : List (N × ℕ)
  pub inner_names : List (N × ℕ)
  pub types : List (TypeDesc N × ℕ)
  pub member_types : List (TypeDesc N × ℕ)
  pub defaults : List (D × ℕ)

abbrev pub pools : {N D : Type 0} → List (N × ℕ) → List (N × ℕ) → List (TypeDesc N × ℕ) → List (TypeDesc N × ℕ) → List (D × ℕ) → Pools N D
pools outer inner types members defaults = record { outer_names = outer; inner_names = inner; types = types; member_types = members; defaults = defaults }

-- A result, the cells that were appended, and the pools after.
pub record Placed (N D A : Type 0) : Type 0 where
  pub result : A
  pub cells : List (Cell N D)
  pub pools_after : Pools N D

-- From the cursor and the pools.
abbrev pub WriteStep : Type 0 → Type 0 → Type 0 → Type 0
WriteStep N D A = ℕ → Pools N D → Placed N D A

infixl 20 ◌>>=◌
unfoldable pub ◌>>=◌ : {N D A B : Type 0} → WriteStep N D A → (A → WriteStep N D B) → WriteStep N D B
◌>>=◌ m f at ps =
    let r = m at ps in
    let q = f r.result (at + length r.cells) r.pools_after in
    record { result = q.result; cells = r.cells ++ q.cells; pools_after = q.pools_after }

unfoldable pub return : {N D A : Type 0} → A → WriteStep N D A
return a at ps = record { result = a; cells = []; pools_after = ps }

-- Appends cells; the result is where they begin.
unfoldable pub append : {N D : Type 0} → List (Cell N D) → WriteStep N D ℕ
append cs at ps = record { result = at; cells = cs; pools_after = ps }

-- Remembers an offset in a pool; the result is the offset.
unfoldable pub add_to_pool : {N D : Type 0} → (ℕ → Pools N D → Pools N D) → ℕ → WriteStep N D ℕ
add_to_pool add offset at ps = record { result = offset; cells = []; pools_after = add offset ps }

-- Padding: 0xAB up to a multiple of 4; the result is where it ends.
unfoldable pub padding_at : ℕ → ℕ
padding_at at = (4 - at % 4) % 4

unfoldable pub pad : {N D : Type 0} → WriteStep N D ℕ
pad at ps = record { result = at + padding_at at; cells = replicate (padding_at at) (byte 0xab); pools_after = ps }

-- Words as cells.
unfoldable pub word_cells : {N D : Type 0} → List ℕ → List (Cell N D)
word_cells [] = []
word_cells (w ∷ ws) = map byte (word_bytes w) ++ word_cells ws

-- n words that stand before what a step writes and are made from its result: records stand before what they point to.
unfoldable pub reserve : {N D A : Type 0} → ℕ → (A → List ℕ) → WriteStep N D A → WriteStep N D A
reserve n words m at ps =
    let q = m (at + 4 * n) ps in
    record { result = q.result; cells = word_cells (words q.result) ++ q.cells; pools_after = q.pools_after }

-- The offset of the first entry that passes the test.
abbrev pub hit : Bool → ℕ → Option ℕ → Option ℕ
hit true offset others = Some offset
hit false offset others = others

unfoldable pub find : {K : Type 0} → (K → Bool) → List (K × ℕ) → Option ℕ
find test [] = None
find test (e ∷ es) = hit (test e.0) e.1 (find test es)

abbrev pub found : {N D : Type 0} → Option ℕ → WriteStep N D ℕ → WriteStep N D ℕ
found None m at ps = m at ps
found (Some offset) m at ps = record { result = offset; cells = []; pools_after = ps }

-- The offset that a pool has, or else a fresh one. Where nothing is shared, always a fresh one.
unfoldable pub interned : {N D : Type 0} → Bool → (Pools N D → Option ℕ) → WriteStep N D ℕ → WriteStep N D ℕ
interned true look m at ps = found (look ps) m at ps
interned false look m at ps = m at ps

unfoldable pub add_to_pool_if : {N D : Type 0} → Bool → (ℕ → Pools N D → Pools N D) → ℕ → WriteStep N D ℕ
add_to_pool_if true add offset = add_to_pool add offset
add_to_pool_if false add offset = return offset

-- Nothing is written for what is empty, and its offset is 0.
unfoldable pub unless_empty : {N D : Type 0} → ℕ → WriteStep N D ℕ → WriteStep N D ℕ
unless_empty zero m = return 0
unless_empty (suc n) m = m

-- A step for a member's type. "A member of a top-level type shares in one pool for the whole chunk, apart from top-level types. Members of that member
-- use a pool made for that member alone, and so on downward": in_member_pool, types are looked up in the pool of members, and that member's own members begin
-- with an empty pool; on the way back the pool of members is what it became, and the one for deeper members is gone.
abbrev pub enter_member : {N D : Type 0} → Pools N D → Pools N D
enter_member ps = pools ps.outer_names ps.inner_names ps.member_types [] ps.defaults

abbrev pub leave_member : {N D : Type 0} → List (TypeDesc N × ℕ) → Pools N D → Pools N D
leave_member types ps = pools ps.outer_names ps.inner_names types ps.types ps.defaults

unfoldable pub in_member_pool : {N D A : Type 0} → WriteStep N D A → WriteStep N D A
in_member_pool m at ps =
    let q = m at (enter_member ps) in
    record { result = q.result; cells = q.cells; pools_after = leave_member ps.types q.pools_after }

-- One entry more in each pool.
abbrev pub add_outer_name : {N D : Type 0} → N → ℕ → Pools N D → Pools N D
add_outer_name n o ps = pools ((n, o) ∷ ps.outer_names) ps.inner_names ps.types ps.member_types ps.defaults

abbrev pub add_inner_name : {N D : Type 0} → N → ℕ → Pools N D → Pools N D
add_inner_name n o ps = pools ps.outer_names ((n, o) ∷ ps.inner_names) ps.types ps.member_types ps.defaults

abbrev pub add_type : {N D : Type 0} → TypeDesc N → ℕ → Pools N D → Pools N D
add_type t o ps = pools ps.outer_names ps.inner_names ((t, o) ∷ ps.types) ps.member_types ps.defaults

abbrev pub add_default : {N D : Type 0} → D → ℕ → Pools N D → Pools N D
add_default d o ps = pools ps.outer_names ps.inner_names ps.types ps.member_types ((d, o) ∷ ps.defaults)

-- The first n of a text's cells.
unfoldable pub cells_of : {N D : Type 0} → ℕ → (ℕ → Cell N D) → List (Cell N D)
cells_of zero cell = []
cells_of (suc n) cell = cell 0 ∷ cells_of n (λ j. cell (suc j))

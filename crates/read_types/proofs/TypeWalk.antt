-- The walk of one type, with the tables: its node is written as node n, its offset goes onto the path, and its members follow one level deeper.
use Rattle.text.specs.declared.Span.{Span}
use Rattle.std.specs.Prelude.{Option, None, Ok, Err, Some}
use Rattle.reflection.specs.declared.refusal.Refusal.TheVariants.{RecordPastEnd, BadName, TypeTooDeep, TypeCycle, NoRoom}
use Rattle.reflection.specs.declared.refusal.Refusal.{Refusal}
use mathlib.Core.Path.{◌≡◌, refl, sym, ap, ◌∙◌}
use mathlib.Core.Bool.{Bool, true, false}
use mathlib.Core.List.{List, [], ◌∷◌, ◌++◌}
use Prim.Native.Nat.{ℕ, suc, ◌+◌, ◌*◌, ◌-◌, ◌≤◌, ◌<◌}
use native.Mathlib.Omega.{arith}
use lib.ListN.{length, take, set}
use lib.Seq.{take-suc-set, take-set-le}
use Rattle.words.specs.Words.{word_at, high_at}
use Rattle.words.specs.Parts.{inside}
use Rattle.std.specs.Option.{is_some}
use Rattle.reflection.specs.Limits.{type_levels}
use Rattle.reflection.specs.declared.Text.{Text}
use Rattle.tables.specs.Records.{type_words_in_table, type_width, put_record}
use Rattle.tables.specs.Tables.{type_record}
use Rattle.read_spec.specs.declared.Counts.{Counts}
use Rattle.read_spec.specs.Step.{Room, room, Walk}
use Rattle.read_spec.specs.Read.{on_path, type_stride, type_name_at}
use Rattle.read_types.specs.Progress.{Progress, stopped, reached}
use Rattle.read_types.specs.Walked.{HasRoom, room_left, answered, AllGrew}
use Rattle.read_types.specs.Walk.{node_from_chunk, turned, type_progress, members_progress, nodes_in, up_to_types, WalkedType}
use Rattle.read_types.proofs.Grown.{types_further}
use Rattle.read_types.proofs.Path.{on_turned, turned_longer, take_less}
use Rattle.read_types.proofs.Table.{node_appended}
use Rattle.read_types.proofs.Types.{unless_bad, type_deep, type_cycle_lem, type_full, type_short, type_in}

is_stopped : (name : Option Span) → is_some name ≡ false → (w : List ℕ) (r : Room) → unless_bad name (reached w r) ≡ stopped BadName
is_stopped (Some found) bad w r = cc
is_stopped None bad w r = refl

is_reached : (name : Option Span) → is_some name ≡ true → (w : List ℕ) (r : Room) → unless_bad name (reached w r) ≡ reached w r
is_reached (Some found) named w r = refl
is_reached None named w r = cc

-- One node more.
abbrev pub with_node : Counts → Counts
with_node n = record { bindings = n.bindings; buffers = n.buffers; variables = n.variables; types = n.types + 1 }

one_grown : (capacity n : Counts) → n.types + 1 ≤ capacity.types → AllGrew (up_to_types capacity n) n (with_node n)
one_grown capacity n free = record {
  bindings = record { low = omega arith; high = omega arith };
  buffers = record { low = omega arith; high = omega arith };
  variables = record { low = omega arith; high = omega arith };
  types = record { low = omega arith; high = omega arith };
}

-- The tests of a type, in the order of the walk: depth, path, room, range. The tables stay as they were where one fails.
module _ (s : List ℕ) (sm5 : Bool) (at : ℕ) (mn : Text) (mo levels : ℕ) (capacity n : Counts) (types path : List ℕ) where
  abbrev path_in : List ℕ
  path_in = take (type_levels - levels) path

  -- what reading the type appends, where the table of nodes has room for t
  abbrev read : ℕ → Progress (List ℕ)
  read t =
      type_progress s sm5 levels (turned path_in) at mn mo (nodes_in types n)
      (room (capacity.bindings - n.bindings) (capacity.buffers - n.buffers) (capacity.variables - n.variables) t)

  abbrev refuses : Refusal → Type 0
  refuses e = WalkedType (type_progress s sm5 levels (turned path_in) at mn mo) levels capacity n types types path path (Err e)

  refused : {e : Refusal} {t : ℕ} → capacity.types - n.types ≡ t → read t ≡ stopped e → refuses e
  refused room-is outcome = record { walked = record { outcome = ap read room-is ∙ outcome; grew = tt }; above = refl }

  pub stops_deep : levels ≡ 0 → refuses TypeTooDeep
  stops_deep deep = refused refl (type_deep s sm5 (turned path_in) at mn mo (nodes_in types n) _ _ _ _ levels deep)

  module _ (level : levels ≡ 0 → ⊥) where
    pub stops_cycle : on_path at path_in ≡ true → refuses TypeCycle
    stops_cycle cycle = refused refl (type_cycle_lem s sm5 (turned path_in) at mn mo (nodes_in types n) _ _ _ _ levels level (on_turned at path_in ∙ cycle))

    module _ (fresh : on_path at path_in ≡ false) where
      pub stops_full : capacity.types ≤ n.types → refuses NoRoom
      stops_full full =
          refused {t = 0} (omega arith) (type_full s sm5 (turned path_in) at mn mo (nodes_in types n) _ _ _ levels level (on_turned at path_in ∙ fresh))

      pub stops_short : n.types < capacity.types → inside (length s) at (type_stride sm5) ≡ false → refuses RecordPastEnd
      stops_short free short =
          refused {t = suc (capacity.types - (n.types + 1))} (omega arith)
          (type_short s sm5 (turned path_in) at mn mo (nodes_in types n) _ _ _ _ levels level (on_turned at path_in ∙ fresh) short)

-- The type passed its tests, its node is written, and `count` members lie from `first` on.
pub record Entered (s : List ℕ) (sm5 : Bool) (at : ℕ) (mn : Text) (mo levels : ℕ) (capacity n : Counts) (types path types₁ : List ℕ) (count first : ℕ)
    : Type 0 where
  pub levels_fit : levels ≤ type_levels
  pub path_long : length path ≡ type_levels
  pub types_fit : HasRoom type_width capacity.types n.types types
  pub level : levels ≡ 0 → ⊥
  pub fresh : on_path at (take (type_levels - levels) path) ≡ false
  pub free : n.types < capacity.types
  pub fits : inside (length s) at (type_stride sm5) ≡ true
  pub put : types₁ ≡ put_record type_width types n.types (type_words_in_table (type_record (node_from_chunk s sm5 at mn mo)))
  pub is_count : count ≡ high_at s (at + 8)
  pub is_first : first ≡ word_at s (at + 12)

module _ {s : List ℕ} {sm5 : Bool} {at : ℕ} {mn : Text} {mo levels : ℕ} {capacity n : Counts} {types path types₁ : List ℕ} {count first : ℕ}
    (e : Entered s sm5 at mn mo levels capacity n types path types₁ count first) where
  abbrev above : List ℕ
  above = take (type_levels - levels) path

  abbrev node : List ℕ
  node = type_words_in_table (type_record (node_from_chunk s sm5 at mn mo))

  abbrev path₁ : List ℕ
  path₁ = set path (type_levels - levels) at

  abbrev whole : List ℕ → Room → Progress (List ℕ)
  whole = type_progress s sm5 levels (turned above) at mn mo

  node_put : nodes_in types₁ (with_node n) ≡ nodes_in types n ++ node
  node_put =
      ap (take ((n.types + 1) * type_width)) e.put
      ∙ node_appended types n.types (type_record (node_from_chunk s sm5 at mn mo)) (omega (arith, e.free, e.types_fit.fits))

  one_deeper : type_levels - (levels - 1) ≡ suc (type_levels - levels)
  one_deeper = omega (arith, e.levels_fit, e.level)

  path_put : turned (take (type_levels - (levels - 1)) path₁) ≡ at ∷ turned above
  path_put =
      ap (λ (k : ℕ). turned (take k path₁)) one_deeper
      ∙ ap turned (take-suc-set path (type_levels - levels) at (omega (arith, e.path_long, e.level)))
      ∙ turned_longer above [] at

  -- The members were walked, and left types₂ and path₂.
  abbrev members_walked : List ℕ → List ℕ → Walk → Type 0
  members_walked types₂ path₂ r =
      WalkedType (members_progress s sm5 (levels - 1) (turned (take (type_levels - (levels - 1)) path₁)) count first)
      (levels - 1) capacity (with_node n) types₁ types₂ path₁ path₂ r

  after : (types₂ path₂ : List ℕ) (r : Walk) → members_walked types₂ path₂ r
      → whole (nodes_in types n) (room_left capacity n) ≡ unless_bad (type_name_at s sm5 at) (answered capacity (nodes_in types₂) r)
  after types₂ path₂ r w =
      let then : Progress (List ℕ) → Progress (List ℕ) = unless_bad (type_name_at s sm5 at) in
      let one_taken : capacity.types - n.types ≡ suc (capacity.types - (n.types + 1)) = omega (arith, e.free) in
      let left : Room = room_left capacity (with_node n) in
      ap (λ (k : ℕ). whole (nodes_in types n) (room left.bindings left.buffers left.variables k)) one_taken
      ∙ type_in s sm5 (turned above) at mn mo (nodes_in types n) left.bindings left.buffers left.variables left.types levels e.level
      (on_turned at above ∙ e.fresh) e.fits
      ∙ (λ i. then (members_progress s sm5 (levels - 1) (sym path_put i) (sym e.is_count i) (sym e.is_first i) (sym node_put i) left))
      ∙ ap then w.walked.outcome

  path_kept : (path₂ : List ℕ) → take (type_levels - (levels - 1)) path₂ ≡ take (type_levels - (levels - 1)) path₁ → take (type_levels - levels) path₂ ≡ above
  path_kept path₂ deeper =
      take_less (type_levels - levels) (type_levels - (levels - 1)) path₂ path₁ (omega (arith, one_deeper)) deeper
      ∙ take-set-le (type_levels - levels) path (type_levels - levels) at (omega arith)

  abbrev result : List ℕ → List ℕ → Walk → Type 0
  result types₂ path₂ r = WalkedType whole levels capacity n types types₂ path path₂ r

  module _ {types₂ path₂ : List ℕ} where
    pub stops_inside : {x : Refusal} → members_walked types₂ path₂ (Err x) → result types₂ path₂ (Err x)
    stops_inside {x} w =
        record { walked = record { outcome = after types₂ path₂ (Err x) w; grew = tt }; above = path_kept path₂ w.above }

    pub stops_unnamed : {m : Counts} → members_walked types₂ path₂ (Ok m) → is_some (type_name_at s sm5 at) ≡ false → result types₂ path₂ (Err BadName)
    stops_unnamed {m} w bad =
        record {
          walked = record {
            outcome = after types₂ path₂ (Ok m) w ∙ is_stopped (type_name_at s sm5 at) bad (nodes_in types₂ m) (room_left capacity m);
            grew = tt;
          };
          above = path_kept path₂ w.above;
        }

    pub arrives : {m : Counts} → members_walked types₂ path₂ (Ok m) → is_some (type_name_at s sm5 at) ≡ true → result types₂ path₂ (Ok m)
    arrives {m} w named =
        let own : AllGrew (up_to_types capacity n) n (with_node n) = one_grown capacity n (omega (arith, e.free)) in
        record {
          walked = record {
            outcome = after types₂ path₂ (Ok m) w ∙ is_reached (type_name_at s sm5 at) named (nodes_in types₂ m) (room_left capacity m);
            grew = types_further capacity own w.walked.grew;
          };
          above = path_kept path₂ w.above;
        }

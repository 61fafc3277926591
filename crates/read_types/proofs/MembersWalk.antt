-- The loop over the members, with the tables: what is left to read decides the outcome, so each turn leaves the outcome of the whole as it was.
use Rattle.std.specs.Prelude.{None, Ok, Err, Some}
use Rattle.reflection.specs.declared.refusal.Refusal.TheVariants.{RecordPastEnd, BadName}
use Rattle.reflection.specs.declared.refusal.Refusal.{Refusal}
use mathlib.Core.Path.{◌≡◌, sym, ap, ◌∙◌}
use mathlib.Core.Bool.{Bool, true, false}
use mathlib.Core.List.{List}
use Prim.Native.Nat.{ℕ, ◌+◌, ◌-◌, ◌≤◌, ◌<◌}
use lib.ListN.{length, take}
use Rattle.words.specs.Words.{word_at}
use Rattle.words.specs.Parts.{inside}
use Rattle.text.specs.Strings.{span}
use Rattle.text.specs.Strings.{cstring_at}
use Rattle.reflection.specs.Limits.{type_levels}
use Rattle.reflection.specs.Strides.{member_stride}
use Rattle.reflection.specs.declared.Text.{Text}
use Rattle.reflection.specs.Texts.{in_chunk}
use Rattle.read_spec.specs.declared.Counts.{Counts}
use Rattle.read_spec.specs.Step.{Room, Walk}
use Rattle.read_types.specs.Progress.{Progress, onward}
use Rattle.read_types.specs.Walked.{room_left, answered, AllGrew}
use Rattle.read_types.specs.Walk.{turned, type_progress, members_progress, nodes_in, up_to_types, WalkedType}
use Rattle.read_types.proofs.Grown.{types_further}
use Rattle.read_types.proofs.Members.{members_none, members_short, members_bad, members_on}

-- The loop's invariant: from n records, and the table and the path at entry (types₀, path₀), the walk came to `next` and these, with `left` members left,
-- the next of them at `at`.
pub record Going (s : List ℕ) (sm5 : Bool) (first count levels : ℕ) (capacity n : Counts) (types₀ path₀ types path : List ℕ) (next : Counts) (at left : ℕ)
    : Type 0 where
  pub same : members_progress s sm5 levels (turned (take (type_levels - levels) path₀)) count first (nodes_in types₀ n) (room_left capacity n)
      ≡ members_progress s sm5 levels (turned (take (type_levels - levels) path₀)) left at (nodes_in types next) (room_left capacity next)
  pub above : take (type_levels - levels) path ≡ take (type_levels - levels) path₀
  pub grew : AllGrew (up_to_types capacity n) n next
  pub types_long : length types ≡ length types₀
  pub path_long : length path ≡ length path₀

-- The member at `at` is there: its name has k bytes at `place`, its type lies at `below`, and its offset is `offset`.
pub record MemberAt (s : List ℕ) (at left place k below offset : ℕ) : Type 0 where
  pub more : 0 < left
  pub fits : inside (length s) at member_stride ≡ true
  pub named : cstring_at s (word_at s at) ≡ Some (span place k)
  pub is_below : below ≡ word_at s (at + 4)
  pub is_offset : offset ≡ word_at s (at + 8)

module _ {s : List ℕ} {sm5 : Bool} {first count levels : ℕ} {capacity n : Counts} {types₀ path₀ types path : List ℕ} {next : Counts} {at left : ℕ}
    (g : Going s sm5 first count levels capacity n types₀ path₀ types path next at left) where
  abbrev path_in : List ℕ
  path_in = turned (take (type_levels - levels) path₀)

  abbrev whole : List ℕ → Room → Progress (List ℕ)
  whole = members_progress s sm5 levels path_in count first

  abbrev result : List ℕ → List ℕ → Walk → Type 0
  result types' path' r = WalkedType whole levels capacity n types₀ types' path₀ path' r

  pub ends : left ≤ 0 → result types path (Ok next)
  ends none = record {
    walked = record {
      outcome = g.same ∙ members_none s sm5 levels path_in at (nodes_in types next) (room_left capacity next) left none;
      grew = g.grew;
    };
    above = g.above;
  }

  pub ends_short : 0 < left → inside (length s) at member_stride ≡ false → result types path (Err RecordPastEnd)
  ends_short more short = record {
    walked = record {
      outcome = g.same ∙ members_short s sm5 levels path_in at (nodes_in types next) (room_left capacity next) left more short;
      grew = tt;
    };
    above = g.above;
  }

  pub ends_bad : 0 < left → inside (length s) at member_stride ≡ true → cstring_at s (word_at s at) ≡ None → result types path (Err BadName)
  ends_bad more fits bad = record {
    walked = record {
      outcome = g.same ∙ members_bad s sm5 levels path_in at (nodes_in types next) (room_left capacity next) left more fits bad;
      grew = tt;
    };
    above = g.above;
  }

  -- The member's type was walked, and left types' and path'.
  module _ {place k below offset : ℕ} {name : Text} (m : MemberAt s at left place k below offset) (is_name : name ≡ in_chunk place k) where
    abbrev type_walked : List ℕ → List ℕ → Walk → Type 0
    type_walked types' path' r =
        WalkedType (type_progress s sm5 levels (turned (take (type_levels - levels) path)) below name offset) levels capacity next types types' path path' r

    after : (types' path' : List ℕ) (r : Walk) → type_walked types' path' r
        → whole (nodes_in types₀ n) (room_left capacity n)
        ≡ onward (members_progress s sm5 levels path_in (left - 1) (at + member_stride)) (answered capacity (nodes_in types') r)
    after types' path' r w =
        let then : Progress (List ℕ) → Progress (List ℕ) = onward (members_progress s sm5 levels path_in (left - 1) (at + member_stride)) in
        let typed : List ℕ → ℕ → Text → ℕ → Progress (List ℕ) =
        λ (p : List ℕ) (x : ℕ) (y : Text) (z : ℕ). type_progress s sm5 levels p x y z (nodes_in types next) (room_left capacity next) in
        g.same
        ∙ members_on s sm5 levels path_in at (nodes_in types next) (room_left capacity next) left place k m.more m.fits m.named
        ∙ (λ i. then (typed (turned (sym g.above i)) (sym m.is_below i) (sym is_name i) (sym m.is_offset i)))
        ∙ ap then w.walked.outcome

    pub ends_below : {types' path' : List ℕ} {e : Refusal} → type_walked types' path' (Err e) → result types' path' (Err e)
    ends_below {types'} {path'} {e} w =
        record { walked = record { outcome = after types' path' (Err e) w; grew = tt }; above = w.above ∙ g.above }

    pub goes_on : {types' path' : List ℕ} {next' : Counts} {left' : ℕ} → type_walked types' path' (Ok next')
        → length types' ≡ length types → length path' ≡ length path → left - 1 ≡ left'
        → Going s sm5 first count levels capacity n types₀ path₀ types' path' next' (at + member_stride) left'
    goes_on {types'} {path'} {next'} w types_same path-same one_less =
        record {
          same = after types' path' (Ok next') w
              ∙ ap (λ (k : ℕ). members_progress s sm5 levels path_in k (at + member_stride) (nodes_in types' next') (room_left capacity next')) one_less;
          above = w.above ∙ g.above;
          grew = types_further capacity g.grew w.walked.grew;
          types_long = types_same ∙ g.types_long;
          path_long = path-same ∙ g.path_long;
        }

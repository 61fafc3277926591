-- What the steps of writing leave in the FINAL cells of a layout: `Leaves`. If what the pools say is so there, and a step's cells stand there where the
-- cursor was, then what the pools say after the step is so, and so is `Post` of the step's result and of the cursor after it. Since every rule speaks of
-- the final cells, nothing has to be carried over an append; each rule is its step's definition.
use Rattle.std.specs.Prelude.{Option, None, Some}
use mathlib.Core.Path.{◌≡◌, refl, ap, sym, ◌∙◌, subst}
use mathlib.Core.List.{List, [], ◌++◌}
use mathlib.Core.Bool.{Bool, true, false}
use Prim.Native.Nat.{ℕ, zero, suc, ◌+◌, ◌*◌, ◌<◌, ◌≤◌}
use native.Mathlib.Omega.{arith}
use native.Mathlib.Nat.{add-zero, le-add_right}
use lib.ListN.{length, length-append, length-replicate}
use Rattle.reflection.specs.Reflection.{TypeDesc, type_desc, Members, no_member, member, map_type}
use Rattle.tables.proofs.Levels.{Fits}
use Rattle.reflection.specs.Contents.{Bytes}
use Rattle.read_spec.specs.Step.{room}
use Rattle.read_spec.specs.Read.{read_type}
use Rattle.write_spec.specs.Step.{Cell, byte, Pools, Placed, WriteStep, ◌>>=◌, return, append, add_to_pool, pad, padding_at, word_cells, reserve}
use Rattle.write_spec.specs.Step.{found}
use Rattle.write_spec.specs.Step.{interned, add_to_pool_if, unless_empty, enter_member, in_member_pool}
use Rattle.theorem_round_trip.proofs.Lists.{All, all_weaken}
use Rattle.theorem_round_trip.proofs.Holds.{Holds, holds_left, holds_right, bytes_of, length_word_cells, WordsAt}
use Rattle.theorem_round_trip.proofs.Rooms.{Reads}
use Rattle.theorem_round_trip.proofs.Texts.{text_in, name_in, NameAt, DefaultAt}

-- How many nodes a type has.
unfoldable mutual
  pub type_size : {N : Type 0} → TypeDesc N → ℕ
  type_size (type_desc k n ms) = 1 + members_size ms

  pub members_size : {N : Type 0} → Members N → ℕ
  members_size no_member = 0
  members_size (member n o t ms) = type_size t + members_size ms

-- The descriptor at o reads as the type t, whatever the path to it, if all of the path lies above o: so a path never meets itself.
pub record TypeAt (cells : List (Cell Bytes Bytes)) (sm5 : Bool) (o : ℕ) (t : TypeDesc Bytes) : Type 0 where
  pub reads : (levels : ℕ) (path : List ℕ) → Fits t levels → All (λ q. o < q) path
      → Reads (read_type (bytes_of cells) sm5 levels path o) (room 0 0 0 (type_size t)) (map_type (text_in cells)) (map_type name_in t)
  pub below_end : o < length cells

-- What the pools say is so in the final cells, and every type lies in_member_pool the cursor.
pub record PoolsHold (cells : List (Cell Bytes Bytes)) (sm5 : Bool) (at : ℕ) (ps : Pools Bytes Bytes) : Type 0 where
  pub cursor : 0 < at
  pub outer_names : All (λ e. NameAt cells e.1 e.0) ps.outer_names
  pub inner_names : All (λ e. NameAt cells e.1 e.0) ps.inner_names
  pub types : All (λ e. TypeAt cells sm5 e.1 e.0 × (e.1 < at)) ps.types
  pub member_types : All (λ e. TypeAt cells sm5 e.1 e.0 × (e.1 < at)) ps.member_types
  pub defaults : All (λ e. DefaultAt cells e.1 e.0) ps.defaults

pub record After {A : Type 0} (cells : List (Cell Bytes Bytes)) (sm5 : Bool) (at : ℕ) (r : Placed Bytes Bytes A) (Post : A → ℕ → Type 0) : Type 0 where
  pub pools_hold : PoolsHold cells sm5 (at + length r.cells) r.pools_after
  pub post : Post r.result (at + length r.cells)

pub record Leaves {A : Type 0} (cells : List (Cell Bytes Bytes)) (sm5 : Bool) (at : ℕ) (m : WriteStep Bytes Bytes A) (Post : A → ℕ → Type 0) : Type 0 where
  pub run : (ps : Pools Bytes Bytes) → PoolsHold cells sm5 at ps → Holds cells at (m at ps).cells → After cells sm5 at (m at ps) Post

-- What appending leaves.
pub record Appended (cells : List (Cell Bytes Bytes)) (at : ℕ) (cs : List (Cell Bytes Bytes)) (o at' : ℕ) : Type 0 where
  pub began : o ≡ at
  pub ends : at' ≡ at + length cs
  pub stands : Holds cells o cs

types_later : (cells : List (Cell Bytes Bytes)) (sm5 : Bool) (at at' : ℕ) (ts : List (TypeDesc Bytes × ℕ)) → at ≤ at'
    → All (λ e. TypeAt cells sm5 e.1 e.0 × (e.1 < at)) ts → All (λ e. TypeAt cells sm5 e.1 e.0 × (e.1 < at')) ts
types_later cells sm5 at at' ts le h = all_weaken (λ e h. (h.0, omega (arith, h.1))) ts h

module _ {cells : List (Cell Bytes Bytes)} {sm5 : Bool} where
  later : (at at' : ℕ) (ps : Pools Bytes Bytes) → at ≤ at' → PoolsHold cells sm5 at ps → PoolsHold cells sm5 at' ps
  later at at' ps le i = record {
    cursor = omega (arith, i.cursor);
    outer_names = i.outer_names;
    inner_names = i.inner_names;
    types = types_later cells sm5 at at' ps.types le i.types;
    member_types = types_later cells sm5 at at' ps.member_types le i.member_types;
    defaults = i.defaults;
  }

  pub bind_leaves : {A B : Type 0} {Q : A → ℕ → Type 0} {R : B → ℕ → Type 0} {at : ℕ} {m : WriteStep Bytes Bytes A} {f : A → WriteStep Bytes Bytes B}
      → Leaves cells sm5 at m Q → ((a : A) (at₁ : ℕ) → at ≤ at₁ → Q a at₁ → Leaves cells sm5 at₁ (f a) R) → Leaves cells sm5 at (m >>= f) R
  unfolding ◌>>=◌
  bind_leaves {A} {B} {Q} {R} {at} {m} {f} first second = record { run = run }
    where
      run : (ps : Pools Bytes Bytes) → PoolsHold cells sm5 at ps → Holds cells at ((m >>= f) at ps).cells → After cells sm5 at ((m >>= f) at ps) R
      run ps inv h =
          let r : Placed Bytes Bytes A = m at ps in
          let at₁ : ℕ = at + length r.cells in
          let q : Placed Bytes Bytes B = f r.result at₁ r.pools_after in
          let d₁ : After cells sm5 at r Q = first.run ps inv (holds_left r.cells q.cells h) in
          let d₂ : After cells sm5 at₁ q R = (second r.result at₁ (le-add_right at (length r.cells)) d₁.post).run r.pools_after
          d₁.pools_hold (holds_right r.cells q.cells h) in
          let cursor : at₁ + length q.cells ≡ at + length (r.cells ++ q.cells) = omega (arith, length-append r.cells q.cells) in
          record { pools_hold = subst (λ n. PoolsHold cells sm5 n q.pools_after) cursor d₂.pools_hold; post = subst (R q.result) cursor d₂.post }

  -- Words that stand before what a step writes.
  pub reserve_leaves : {A : Type 0} {Q R : A → ℕ → Type 0} (at n : ℕ) (f : A → List ℕ) (m : WriteStep Bytes Bytes A)
      → ((ps : Pools Bytes Bytes) → length (f (m (at + 4 * n) ps).result) ≡ n)
      → Leaves cells sm5 (at + 4 * n) m Q → ((a : A) (at₁ : ℕ) → Q a at₁ → WordsAt cells at (f a) → R a at₁) → Leaves cells sm5 at (reserve n f m) R
  unfolding reserve WordsAt
  reserve_leaves {A} {Q} {R} at n f m sized step post = record { run = run }
    where
      run : (ps : Pools Bytes Bytes) → PoolsHold cells sm5 at ps → Holds cells at (reserve n f m at ps).cells → After cells sm5 at (reserve n f m at ps) R
      run ps inv h =
          let q : Placed Bytes Bytes A = m (at + 4 * n) ps in
          let ws : List (Cell Bytes Bytes) = word_cells (f q.result) in
          let size : length ws ≡ 4 * n = length_word_cells (f q.result) ∙ ap (λ (k : ℕ). 4 * k) (sized ps) in
          let right : Holds cells (at + 4 * n) q.cells = subst (λ k. Holds cells (at + k) q.cells) size (holds_right ws q.cells h) in
          let d : After cells sm5 (at + 4 * n) q Q = step.run ps (later at (at + 4 * n) ps (le-add_right at (4 * n)) inv) right in
          let cursor : at + 4 * n + length q.cells ≡ at + length (ws ++ q.cells) = omega (arith, length-append ws q.cells, size) in
          record {
            pools_hold = subst (λ k. PoolsHold cells sm5 k q.pools_after) cursor d.pools_hold;
            post = subst (R q.result) cursor (post q.result _ d.post (holds_left ws q.cells h));
          }

  -- A member's type, with the pools one level down.
  pub in_member_pool_leaves : {A : Type 0} {Post : A → ℕ → Type 0} {at : ℕ} {m : WriteStep Bytes Bytes A} → Leaves cells sm5 at m Post
      → Leaves cells sm5 at (in_member_pool m) Post
  unfolding in_member_pool
  in_member_pool_leaves {at = at} step = record {
    run = λ ps inv h.
        let d = step.run (enter_member ps) (record {
          cursor = inv.cursor;
          outer_names = inv.outer_names;
          inner_names = inv.inner_names;
          types = inv.member_types;
          member_types = tt;
          defaults = inv.defaults;
        }) h in
        record {
          pools_hold = record {
            cursor = d.pools_hold.cursor;
            outer_names = d.pools_hold.outer_names;
            inner_names = d.pools_hold.inner_names;
            types = types_later cells sm5 at _ ps.types (le-add_right at _) inv.types;
            member_types = d.pools_hold.types;
            defaults = d.pools_hold.defaults;
          };
          post = d.post;
        };
  }

  -- Nothing was appended.
  stay : {A : Type 0} {Post : A → ℕ → Type 0} (at : ℕ) (a : A) (ps : Pools Bytes Bytes) → PoolsHold cells sm5 at ps → Post a at
      → After cells sm5 at (record { result = a; cells = []; pools_after = ps }) Post
  stay {Post} at a ps inv post = record {
    pools_hold = subst (λ n. PoolsHold cells sm5 n ps) (sym (add-zero at)) inv;
    post = subst (Post a)
        (sym (add-zero at)) post;
  }

  pub return_leaves : {A : Type 0} {Post : A → ℕ → Type 0} {at : ℕ} (a : A) → Post a at → Leaves cells sm5 at (return a) Post
  unfolding return
  return_leaves {at = at} a post = record { run = λ ps inv h. stay at a ps inv post }

  pub add_to_pool_leaves : {Post : ℕ → ℕ → Type 0} {at : ℕ} (add : ℕ → Pools Bytes Bytes → Pools Bytes Bytes) (o : ℕ)
      → ((ps : Pools Bytes Bytes) → PoolsHold cells sm5 at ps → PoolsHold cells sm5 at (add o ps)) → Post o at → Leaves cells sm5 at (add_to_pool add o) Post
  unfolding add_to_pool
  add_to_pool_leaves {at = at} add o keeps post = record { run = λ ps inv h. stay at o (add o ps) (keeps ps inv) post }

  pub add_to_pool_if_leaves : {Post : ℕ → ℕ → Type 0} {at : ℕ} (share : Bool) (add : ℕ → Pools Bytes Bytes → Pools Bytes Bytes) (o : ℕ)
      → ((ps : Pools Bytes Bytes) → PoolsHold cells sm5 at ps → PoolsHold cells sm5 at (add o ps)) → Post o at
      → Leaves cells sm5 at (add_to_pool_if share add o) Post
  unfolding add_to_pool_if
  add_to_pool_if_leaves true add o keeps post = add_to_pool_leaves add o keeps post
  add_to_pool_if_leaves false add o keeps post = return_leaves o post

  pub append_leaves : (at : ℕ) (cs : List (Cell Bytes Bytes)) → Leaves cells sm5 at (append cs) (Appended cells at cs)
  unfolding append
  append_leaves at cs = record {
    run = λ ps inv h. record {
      pools_hold = later at (at + length cs) ps (le-add_right at (length cs)) inv;
      post = record
          { began = refl; ends = refl; stands = h };
    };
  }

  -- The result of padding is the cursor after it.
  pub pad_leaves : (at : ℕ) → Leaves cells sm5 at pad (λ o at'. o ≡ at')
  unfolding pad
  pad_leaves at = record {
    run = λ ps inv h. record {
      pools_hold = later at _ ps (le-add_right at _) inv;
      post = ap (λ (n : ℕ). at + n) (sym (length-replicate (padding_at at) (byte 0xab)));
    };
  }

  pub interned_leaves : {Post : ℕ → ℕ → Type 0} (share : Bool) {at : ℕ} {look : Pools Bytes Bytes → Option ℕ} {m : WriteStep Bytes Bytes ℕ}
      → ((ps : Pools Bytes Bytes) (o : ℕ) → PoolsHold cells sm5 at ps → look ps ≡ Some o → Post o at) → Leaves cells sm5 at m Post
      → Leaves cells sm5 at (interned share look m) Post
  unfolding interned
  interned_leaves {Post} true {at} {look} {m} old new = record { run = λ ps inv h. go ps inv (look ps) refl h }
    where
      go : (ps : Pools Bytes Bytes) → PoolsHold cells sm5 at ps → (l : Option ℕ) → look ps ≡ l → Holds cells at (found l m at ps).cells
          → After cells sm5 at (found l m at ps) Post
      go ps inv None e h = new.run ps inv h
      go ps inv (Some o) e h = stay at o ps inv (old ps o inv e)
  interned_leaves false old new = record { run = λ ps inv h. new.run ps inv h }

  pub unless_empty_leaves : {Post : ℕ → ℕ → Type 0} {at : ℕ} (n : ℕ) {m : WriteStep Bytes Bytes ℕ} → (n ≡ 0 → Post 0 at) → (0 < n → Leaves cells sm5 at m Post)
      → Leaves cells sm5 at (unless_empty n m) Post
  unfolding unless_empty
  unless_empty_leaves zero empty full = return_leaves 0 (empty refl)
  unless_empty_leaves (suc n) empty full = full (omega arith)

  -- The cursor is never at the chunk's start: the header stands there.
  pub after_start : {A : Type 0} {Post : A → ℕ → Type 0} {at : ℕ} {m : WriteStep Bytes Bytes A} → (0 < at → Leaves cells sm5 at m Post)
      → Leaves cells sm5 at m Post
  after_start step = record { run = λ ps inv h. (step inv.cursor).run ps inv h }

  pub weaken_leaves : {A : Type 0} {Q R : A → ℕ → Type 0} {at : ℕ} {m : WriteStep Bytes Bytes A} → ((a : A) (at' : ℕ) → Q a at' → R a at')
      → Leaves cells sm5 at m Q → Leaves cells sm5 at m R
  weaken_leaves f step = record { run = λ ps inv h. let d = step.run ps inv h in record { pools_hold = d.pools_hold; post = f _ _ d.post } }
